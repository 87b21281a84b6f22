-- What an open head that gets one waiter more leaves of each topic.
use Rattle.std.proofs.Common.{◌≡◌, ℕ, ◌+◌, ◌*◌, ◌/◌, ◌%◌, ◌^◌, ◌<◌, ◌≤◌, ◌≢◌, List, None, Some, cond, eqb}
use Rattle.std.proofs.Common.{set, sym, refl, ap, subst, ◌∙◌, inl, inr, arith}
use mathlib.Core.Option.{some}
use lib.ListN.{get_elem?}
use Rattle.board_rule.specs.Meaning.{Meaning}
use Rattle.board_rule.specs.Records.{Claimed, Pending}
use Rattle.board_rule.specs.Words.{Mem, put, head_word}
use Rattle.board_rule.specs.Waiters.{IsLater}
use Rattle.board_rule.specs.Seats.{Each, waits_at, with_wait}
use Rattle.board_rule.specs.Soundness.{KeepsPromises, KeepsRights, Stays}
use Rattle.board_rule.specs.Soundness.{IsStored, IsRaised, held, ended}
use Rattle.board_rule.specs.declared.hands.Hands.{Hands}
use Rattle.board_rule.proofs.Lists.{put_here, put_else, put_cases, total_same, cond_cases}
use Rattle.board_rule.proofs.Rights.{rights_at, done_at, rights_moved}
use Rattle.board_rule.proofs.Chains.{later_then}
use Rattle.board_rule.proofs.AnswerWords.{each_map, each_both}
use Rattle.board_rule.proofs.Raised.{count_none, waits_each}
use Rattle.board_rule.proofs.HeadTopics.{promised_still}
use Rattle.board_rule.specs.Looks.{Looked}

module _ (meaning : Meaning) (capacity : ℕ) (m : Mem) (c to : ℕ) (was_open : m.head c < 2 ^ 63) (is_open : to < 2 ^ 63)
  where
    -- closed heads are those that were closed
    closed_before : (p : ℕ) → 2 ^ 63 ≤ put m.head c to p → 2 ^ 63 ≤ m.head p
    closed_before p = put_cases m.head c to p (λ x. 2 ^ 63 ≤ x → 2 ^ 63 ≤ m.head p) (λ _ closed. absurd (omega arith))
        (λ _ closed. closed)

    pub closed_still : (p : ℕ) → 2 ^ 63 ≤ m.head p → 2 ^ 63 ≤ put m.head c to p
    closed_still p closed = put_cases m.head c to p (λ x. 2 ^ 63 ≤ x) (λ e. let lt =
        subst (λ q. m.head q < 2 ^ 63) (sym e) was_open in absurd (omega arith)) (λ _. closed)

    pub promises_push : KeepsPromises meaning capacity m.cell m.head m.cost m.node
        → KeepsPromises meaning capacity m.cell (put m.head c to) m.cost m.node
    promises_push old = record {
      promise = λ p near closed. promised_still meaning capacity m (put m.head c to) closed_still (m.cell p)
          (old.promise p near (closed_before p closed));
      answer = λ p near closed. old.answer p near (closed_before p closed);
    }

    pub stays_push : m.head c / 2 ^ 24 < to / 2 ^ 24 → (looks : List (ℕ × ℕ)) → Stays m.cell m.head m.full looks
        → Stays m.cell (put m.head c to) m.full looks
    stays_push more looks old =
        let heads : (p found : ℕ) → Looked looks (head_word p) found → IsLater found (put m.head c to p) =
        λ p found at. later_then found (m.head p) (put m.head c to p) (old.heads p found at)
        (put_cases m.head c to p (IsLater (m.head p))
        (λ e. subst (λ q. IsLater (m.head q) to) (sym e) (inr (inr (was_open, more))))
        (λ _. inr (inl refl))) in
        assumption (old, heads)

    pub rights_push : {R : Type 0} (views : List (Hands R)) (id : ℕ) (v w : Hands R) → get_elem? views id ≡ some v
        → c < capacity
        → ((p : ℕ) → rights_at p w.rights ≡ rights_at p v.rights) → w.done ≡ v.done
        → KeepsRights capacity m.run m.head views → KeepsRights capacity m.run (put m.head c to) (set views id w)
    rights_push views id v w mine near rights done old =
        let was = old c near in
        let h : held (set views id w) c ≡ held views c =
        total_same (λ (u : Hands _). rights_at c u.rights) views id v w mine (rights c) in
        let d : ended (set views id w) c ≡ ended views c =
        total_same (λ (u : Hands _). done_at c u.done) views id v w mine (ap (done_at c) done) in
        rights_moved views id v w mine capacity m.run m.head m.run (put m.head c to) c
        (λ p _. rights p) (λ p _. ap (done_at p) done) (λ _ _. refl) (λ p ne. put_else m.head c to p ne)
        (record {
          once = omega (arith, h, d, was.once);
          running = was.running ∙ omega (arith, h, d);
          small = was.small;
          closed = λ one. let closed = was.closed (sym d ∙ one) in absurd (omega arith);
          run_ended = λ one. was.run_ended (sym d ∙ one);
          is_open = λ _. subst (λ x. x < 2 ^ 63) (sym (put_here m.head c to)) is_open;
        })
        old

-- a right with one wait more where it is that to the waiter's goal
abbrev pub more_waits : ℕ → Claimed → Claimed
more_waits place r = cond (eqb r.place place) (record r { waits = r.waits + 1 }) r

more_waits_cases : (place : ℕ) (r : Claimed) (Fact : Claimed → Type 0)
    → (r.place ≡ place → Fact (record r { waits = r.waits + 1 })) → (r.place ≢ place → Fact r)
    → Fact (more_waits place r)
more_waits_cases place r = cond_cases r.place place (record r { waits = r.waits + 1 }) r

pub same_place : (place : ℕ) (r : Claimed) → (more_waits place r).place ≡ r.place
same_place place r = more_waits_cases place r (λ s. s.place ≡ r.place) (λ _. refl) (λ _. refl)

pub stored_push : (cost node who : ℕ → ℕ) (place : ℕ) (rights : List Claimed) → Each (IsStored cost node who) rights
    → Each (IsStored cost node who) (with_wait place rights)
stored_push cost node who place =
    each_map (IsStored cost node who) (IsStored cost node who) (more_waits place)
    (λ r old. more_waits_cases place r (IsStored cost node who)
    (λ _. assumption old) (λ _. old))

-- the wait that was being put in is the right's
pub raised_push : (run : ℕ → ℕ) (x : Pending) (rights : List Claimed) → rights_at (x.waiter / 8) rights ≤ 1
    → waits_at (x.waiter / 8) rights ≡ x.waiter % 8
    → Each (IsRaised run (Some x)) rights → Each (IsRaised run None) (with_wait (x.waiter / 8) rights)
raised_push run x rights once its_wait old =
    each_map (λ r. IsRaised run None (more_waits place r)) (IsRaised run None) (more_waits place) (λ r h. h) rights
    (each_both (IsRaised run (Some x)) (λ r. r.place ≡ place → r.waits ≡ waits_at place rights)
    (λ r. IsRaised run None (more_waits place r))
    (λ r was same. more_waits_cases place r (IsRaised run None)
    (λ here.
    let waits : r.waits ≡ x.waiter % 8 = same here ∙ its_wait in
    let few : x.waiter % 8 < 8 = omega arith in
    record {
      few = omega arith;
      others = λ b more less. was.others b (omega arith) less
          ∙ count_none (8 * r.place + b) x.waiter (λ e. omega arith);
    })
    (λ ne. record {
      few = was.few;
      others = λ b more less. was.others b more less ∙ count_none (8 * r.place + b) x.waiter (λ e. ne (omega arith));
    }))
    rights old (waits_each place rights once))
  where
    place : ℕ
    place = x.waiter / 8
