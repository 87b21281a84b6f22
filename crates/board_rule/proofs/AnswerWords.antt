-- What a store of an answer word, by the seat that holds the goal, leaves of each topic.
use Rattle.std.proofs.Common.{cond, eqb, ◌≡◌, ℕ, ◌+◌, ◌*◌, ◌/◌, ◌^◌, ◌<◌, ◌≤◌, ◌≢◌, List, [], ◌∷◌, map, sym, refl}
use Rattle.std.proofs.Common.{ap, subst, ◌∙◌, inr, arith, Option}
use mathlib.Core.Option.{some}
use lib.ListN.{get_elem?}
use Rattle.board_rule.specs.Meaning.{Meaning}
use Rattle.std.specs.Int.{bit_at}
use Rattle.board_rule.specs.Records.{Claimed, Ended, Pending}
use Rattle.board_rule.specs.Waiters.{waiting}
use Rattle.board_rule.specs.Words.{Mem}
use Rattle.board_rule.specs.Seats.{Each, times, waits_at}
use Rattle.board_rule.specs.Soundness.{KeepsBlank, KeepsPromises, IsRecorded, IsStored, IsRaised, IsSoundBy}
use Rattle.board_rule.specs.Soundness.{IsAwake, EndsClaims}
use Rattle.board_rule.specs.May.{HasRight}
use Rattle.board_rule.specs.declared.hands.Hands.{Hands}
use Rattle.board_rule.proofs.Lists.{each_as, absent_each, terms_le}
use Rattle.board_rule.proofs.Frames.{awake_has, rights_stay, HoldsAfter}
use Rattle.board_rule.proofs.Rights.{held_by, rights_at, bit_runs}
use Rattle.board_rule.proofs.Waits.{waits_stay, pending_as}

-- answer words that differ from the old ones at one place alone, and rights that say so
pub record Answers (m : Mem) (place : ℕ) (cost node who : ℕ → ℕ) (stores : Claimed → Claimed) : Type 0 where
  pub cost_else : (p : ℕ) → p ≢ place → cost p ≡ m.cost p
  pub node_else : (p : ℕ) → p ≢ place → node p ≡ m.node p
  pub who_else : (p : ℕ) → p ≢ place → who p ≡ m.who p
  pub same_place : (r : Claimed) → (stores r).place ≡ r.place
  pub same_waits : (r : Claimed) → (stores r).waits ≡ r.waits
  pub stored : (r : Claimed) → IsStored m.cost m.node m.who r → IsStored cost node who (stores r)

-- a change of rights that keeps their places keeps how often each stands there
pub times_map : (stores : Claimed → Claimed) → ((r : Claimed) → (stores r).place ≡ r.place)
    → (p : ℕ) (rights : List Claimed) → rights_at p (map stores rights) ≡ rights_at p rights
times_map stores same p [] = refl
times_map stores same p (r ∷ rs) = omega
    (arith, times_map stores same p rs, ap (λ q. cond {A = ℕ} (eqb q p) 1 0) (same r))

pub each_map : (P Q : Claimed → Type 0) (stores : Claimed → Claimed) → ((r : Claimed) → P r → Q (stores r))
    → (rights : List Claimed) → Each P rights → Each Q (map stores rights)
each_map P Q stores follows [] old = tt
each_map P Q stores follows (r ∷ rs) old = (follows r old.0, each_map P Q stores follows rs old.1)

-- nor does it change how many waits they have
waits_map : (stores : Claimed → Claimed) → ((r : Claimed) → (stores r).place ≡ r.place)
    → ((r : Claimed) → (stores r).waits ≡ r.waits)
    → (p : ℕ) (rights : List Claimed) → waits_at p (map stores rights) ≡ waits_at p rights
waits_map stores same waits p [] = refl
waits_map stores same waits p (r ∷ rs) = let rest = waits_map stores same waits p rs in
    λ i. cond (eqb (same r i) p) (waits r i) (rest i)

-- two facts of all give a third
pub each_both : {A : Type 0} (P Q S : A → Type 0) → ((a : A) → P a → Q a → S a) → (l : List A) → Each P l → Each Q l
    → Each S l
each_both P Q S follows [] p q = tt
each_both P Q S follows (a ∷ l) p q = (follows a p.0 q.0, each_both P Q S follows l p.1 q.1)

module _ {R : Type 0} (meaning : Meaning) (rules : R) (capacity : ℕ) (m : Mem) (place : ℕ) (cost node who : ℕ → ℕ)
    (stores : Claimed → Claimed)
    (answers : Answers m place cost node who stores) (near : place < capacity) where
  blank_stored : m.run place ≢ 0 → KeepsBlank meaning capacity m
      → KeepsBlank meaning capacity (record m { cost = cost; node = node; who = who })
  blank_stored runs old p near_p no_goal =
      let b = old p near_p no_goal in
      let ne : p ≢ place = λ e. runs (ap m.run (sym e) ∙ b.run) in
      let cost_is = answers.cost_else p ne ∙ b.cost in
      let node_is = answers.node_else p ne ∙ b.node in
      let who_is = answers.who_else p ne ∙ b.who in
      assumption (b, cost_is, node_is, who_is)

  promises_stored : m.head place < 2 ^ 63 → KeepsPromises meaning capacity m.cell m.head m.cost m.node
      → KeepsPromises meaning capacity m.cell m.head cost node
  promises_stored is_open old = record {
    promise = old.promise;
    answer = λ p near_p closed.
        let ne : p ≢ place = λ e. let lt = subst (λ q. m.head q < 2 ^ 63) (sym e) is_open in absurd (omega arith) in
        subst (λ x. meaning.answer (m.cell p) x (node p)) (sym (answers.cost_else p ne))
        (subst (λ x. meaning.answer (m.cell p) (m.cost p) x) (sym (answers.node_else p ne))
        (old.answer p near_p closed));
  }

  -- what was finished is recorded elsewhere
  recorded_stored : m.head place < 2 ^ 63 → (e : Ended) → IsRecorded capacity m.head m.cost m.node m.who e
      → IsRecorded capacity m.head cost node who e
  recorded_stored is_open e old =
      let ne : e.place ≢ place = λ same. let lt = subst (λ q. m.head q < 2 ^ 63) (sym same) is_open in let c =
      old.closed in absurd (omega arith) in
      record {
        near = old.near;
        closed = old.closed;
        cost_is = answers.cost_else e.place ne ∙ old.cost_is;
        node_is = answers.node_else e.place ne ∙ old.node_is;
        who_is = answers.who_else e.place ne ∙ old.who_is;
        few = old.few;
      }

  -- a right to another goal has its answer words elsewhere
  pub stored_else : (r : Claimed) → IsStored m.cost m.node m.who r → r.place ≢ place → IsStored cost node who r
  stored_else r old ne = record {
    cost_is = λ x e. answers.cost_else r.place ne ∙ old.cost_is x e;
    node_is = λ x e. answers.node_else r.place ne ∙ old.node_is x e;
    who_is = λ x e. answers.who_else r.place ne ∙ old.who_is x e;
  }

  -- the right has the waits that it had
  raised_stored : {pending : Option Pending} (r : Claimed) → IsRaised m.run pending r
      → IsRaised m.run pending (stores r)
  raised_stored {pending} r old = record {
    few = subst (λ n. n ≤ 8) (sym (answers.same_waits r)) old.few;
    others = λ b more few. subst (λ p. bit_at (m.run p) b ≡ times (λ (q : ℕ). q) (8 * p + b) (waiting pending))
        (sym (answers.same_place r))
        (old.others b (subst (λ n. n ≤ b) (answers.same_waits r) more) few);
  }

  -- what holds once a seat has stored an answer word of a goal that it holds
  pub answer_holds : (views : List (Hands R)) (id : ℕ) (v : Hands R) (kept : Option (List ℕ))
      → get_elem? views id ≡ some v → 0 < v.parts → HasRight capacity v.rights place
      → IsSoundBy meaning rules capacity m views
      → HoldsAfter meaning rules capacity m (record m { cost = cost; node = node; who = who }) views id
      (record v { alone = kept; rights = map stores v.rights })
  answer_holds views id v kept mine some_part has k =
      let w : Hands R = record v { alone = kept; rights = map stores v.rights } in
      let own = k.hands id v mine in
      let is = held_by capacity m.run m.head views id v place mine has k.rights in
      let counts = times_map stores answers.same_place in
      let recorded : (done : List Ended) → Each (IsRecorded capacity m.head m.cost m.node m.who) done
      → Each (IsRecorded capacity m.head cost node who) done =
      each_as (IsRecorded capacity m.head m.cost m.node m.who) (IsRecorded capacity m.head cost node who)
      (recorded_stored is.is_open) in
      record {
        cells = k.cells;
        blank = blank_stored (bit_runs (m.run place) 8 (omega (arith, is.runs))) k.blank;
        rights = rights_stay capacity m.run m.head views id v w mine (λ p. counts p v.rights) refl k.rights;
        waits = waits_stay meaning capacity m.cell m.head m.next m.run views id v w mine refl k.waits;
        promises = promises_stored is.is_open k.promises;
        full = k.full;
        others = λ other u ne there h.
            let both = terms_le (λ (x : Hands R). rights_at place x.rights) views id other v u ne mine there in
            let none : rights_at place u.rights ≡ 0 = omega (arith, both, is.held_once, is.right_once) in
            let stored = each_both (IsStored m.cost m.node m.who) (λ r. r.place ≢ place) (IsStored cost node who)
            stored_else u.rights h.stored (absent_each (λ (r : Claimed). r.place) place u.rights none) in
            assumption (h, recorded u.done h.recorded, stored);
        own =
            let stored = each_map (IsStored m.cost m.node m.who) (IsStored cost node who) stores answers.stored
            v.rights own.stored in
            let raised = each_map (IsRaised m.run v.pending) (IsRaised m.run v.pending) stores raised_stored v.rights
            own.raised in
            let ends : EndsClaims w = λ p. omega (arith, own.ends p, counts p v.rights) in
            let pends = pending_as meaning capacity m.cell m.next m.cell m.next v.looks v.looks v.rights w.rights
            v.pending
            (λ x at old. record {
              has = record {
                near = old.has.near;
                held = let h = old.has.held in omega (arith, counts (x.waiter / 8) v.rights);
              };
              its_wait = waits_map stores answers.same_place answers.same_waits (x.waiter / 8) v.rights ∙ old.its_wait;
              seen = old.seen;
              looked = old.looked;
            })
            own.pends in
            let awake : IsAwake rules capacity w = inr (awake_has rules capacity v some_part own.awake) in
            assumption (own, recorded v.done own.recorded, stored, raised, ends, pends, awake);
      }
