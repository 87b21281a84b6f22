-- What a seat keeps of the goals that it claimed, of those that it finished, and of waiters. A waiter is 8 times its
-- goal's place, plus the number of its wait.
use Rattle.std.specs.Prelude.{ℕ, Bool, List, Option, refl}
use Rattle.std.specs.Coded.{Coded, code_by, coded_ℕ, coded_bool, coded_list, coded×, coded_option}

-- the right to a goal that was claimed: its place, its number of waits, and the answer words stored so far
pub record Claimed : Type 0 where
  pub place : ℕ
  pub waits : ℕ
  pub cost : Option ℕ
  pub node : Option ℕ
  pub who : Option ℕ

-- a goal that was suspended: its place, and the number of waits that its right had
pub record Paused : Type 0 where
  pub place : ℕ
  pub waits : ℕ

-- a goal that was finished: its place, by which worker, and its answer
pub record Ended : Type 0 where
  pub place : ℕ
  pub worker : ℕ
  pub cost : ℕ
  pub node : ℕ

-- a wait that is being put in: the waiter, the child's head as last seen, the child's place then, and whether the
-- waiter's next word was stored for that head
pub record Pending : Type 0 where
  pub waiter : ℕ
  pub child : ℕ
  pub seen : Option ℕ
  pub linked : Bool

-- what is left of a list that was closed: the child's place, the waiters, and the first one's next word once it was
-- read
pub record Walk : Type 0 where
  pub child : ℕ
  pub waiters : List ℕ
  pub next : Option ℕ

abbrev Known : Type 0
Known = Option ℕ

abbrev pub claimed_coded : Coded Claimed
claimed_coded = code_by (ℕ × (ℕ × (Known × (Known × Known))))
    (coded× coded_ℕ (coded× coded_ℕ (coded× (coded_option coded_ℕ)
    (coded× (coded_option coded_ℕ) (coded_option coded_ℕ)))))
    (λ r. (r.place, (r.waits, (r.cost, (r.node, r.who)))))
    (λ t. record { place = t.0; waits = t.1.0; cost = t.1.1.0; node = t.1.1.1.0; who = t.1.1.1.1 })
    (λ _. refl)

abbrev pub paused_coded : Coded Paused
paused_coded = code_by (ℕ × ℕ) (coded× coded_ℕ coded_ℕ) (λ p. (p.place, p.waits))
    (λ t. record { place = t.0; waits = t.1 }) (λ _. refl)

abbrev pub ended_coded : Coded Ended
ended_coded = code_by (ℕ × (ℕ × (ℕ × ℕ))) (coded× coded_ℕ (coded× coded_ℕ (coded× coded_ℕ coded_ℕ)))
    (λ e. (e.place, (e.worker, (e.cost, e.node))))
    (λ t. record { place = t.0; worker = t.1.0; cost = t.1.1.0; node = t.1.1.1 })
    (λ _. refl)

abbrev pub pending_coded : Coded Pending
pending_coded = code_by (ℕ × (ℕ × (Known × Bool)))
    (coded× coded_ℕ (coded× coded_ℕ (coded× (coded_option coded_ℕ) coded_bool)))
    (λ x. (x.waiter, (x.child, (x.seen, x.linked))))
    (λ t. record { waiter = t.0; child = t.1.0; seen = t.1.1.0; linked = t.1.1.1 })
    (λ _. refl)

abbrev pub walk_coded : Coded Walk
walk_coded = code_by (ℕ × (List ℕ × Known)) (coded× coded_ℕ (coded× (coded_list coded_ℕ) (coded_option coded_ℕ)))
    (λ w. (w.child, (w.waiters, w.next)))
    (λ t. record { child = t.0; waiters = t.1.0; next = t.1.1 })
    (λ _. refl)
