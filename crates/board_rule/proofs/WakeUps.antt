-- No wake-up is lost: where no seat has a right, a wait half put in or a list half walked, and no goal is ready, every
-- goal is finished.
use Rattle.std.proofs.Common.{◌≡◌, ℕ, zero, suc, ◌+◌, ◌*◌, ◌/◌, ◌%◌, ◌^◌, ◌<◌, ◌≤◌, ◌≢◌, ◌⊎◌, IsTrue, Bool, true, false}
use Rattle.std.proofs.Common.{List, [], ◌∷◌, None, sym, refl, ap, subst, ◌∙◌, inl, inr, ⊎_elim, arith}
use mathlib.Core.Option.{some, some-injective, some-ne-none}
use lib.ListN.{get_elem?}
use Rattle.std.specs.Int.{bit_at}
use Rattle.std.proofs.lemmas.Bool.{cases_eq, cases_lt}
use Rattle.std.proofs.lemmas.Nat.Bits.{bit_at-zero, same_from_bits}
use Rattle.board_rule.specs.Meaning.{Meaning}
use Rattle.board_rule.specs.Words.{Mem}
use Rattle.board_rule.specs.Waiters.{wait_bit, below}
use Rattle.board_rule.specs.Seats.{Among, total, in_hand, spent}
use Rattle.board_rule.specs.Soundness.{HoldsGoal, KeepsWaits, IsSoundBy, held, ended}
use Rattle.board_rule.specs.declared.hands.Hands.{Hands}
use Rattle.board_rule.proofs.Lists.{each_at, terms_le, counts_none}
use Rattle.board_rule.proofs.Rights.{rights_at, bit_runs}
use Rattle.board_rule.proofs.Chains.{count}
use Rattle.board_rule.proofs.Waits.{handed, listed_waits, waited_open, waited_stands}

-- one of the first bits is set, or none is
pub some_bit : (n k : ℕ) → ((b : ℕ) × (b < k) × (1 ≤ bit_at n b)) ⊎ ((b : ℕ) → b < k → bit_at n b ≡ 0)
some_bit n zero = inr (λ b less. absurd (omega arith))
some_bit n (suc k) =
    ⊎_elim
    (λ t. inl (t.0, omega (arith, t.1), t.2))
    (λ none_of. ⊎_elim
    (λ less. inr (λ b within. ⊎_elim (λ e. ap (bit_at n) e ∙ omega arith) (λ ne. none_of b (omega arith))
    (cases_eq b k)))
    (λ more. inl (k, omega arith, more))
    (cases_lt (bit_at n k) 1))
    (some_bit n k)

-- a sum over places that is not 0 has a term that is not
below_some : (f : ℕ → ℕ) (n : ℕ) → 1 ≤ below f n → (p : ℕ) × (p < n) × (1 ≤ f p)
below_some f zero more = absurd (omega arith)
below_some f (suc n) more =
    ⊎_elim
    (λ less. let t = below_some f n (omega arith) in (t.0, omega (arith, t.1), t.2))
    (λ here. (n, omega arith, here))
    (cases_lt (f n) 1)

-- a waiter that is counted stands in the list
count_among : (q : ℕ) (l : List ℕ) → 1 ≤ count q l → Among l q
count_among q [] more = absurd (omega arith)
count_among q (p ∷ ps) more =
    ⊎_elim (λ e. inl e) (λ ne. inr (count_among q ps (omega (arith, counts_none p q ne)))) (cases_eq p q)

module _ {R : Type 0} (meaning : Meaning) (rules : R) (capacity : ℕ) (m : Mem) (views : List (Hands R))
    (sound : IsSoundBy meaning rules capacity m views)
    (no_right : (p : ℕ) → held views p ≡ 0) (no_hand : (q : ℕ) → handed views q ≡ 0)
    (goals : (goal child : ℕ) → meaning.entry goal → meaning.child goal child → IsTrue (meaning.goal child))
    (rank : ℕ → ℕ) (falls : (goal child : ℕ) → meaning.child goal child → rank child < rank goal)
    (none_ready : (p : ℕ) → p < capacity → HoldsGoal meaning capacity m.cell p → m.run p ≢ 0) where
  -- a goal that is neither ready nor finished waits for a child that is not finished
  waits_for : (p : ℕ) → p < capacity → HoldsGoal meaning capacity m.cell p → ended views p ≡ 0
      → (c : ℕ) × (c < capacity) × HoldsGoal meaning capacity m.cell c × (m.head c < 2 ^ 63)
      × meaning.child (m.cell p) (m.cell c)
  waits_for p near holds unfinished =
      let was = sound.rights p near in
      ⊎_elim
      (λ t.
      let b = t.0 in
      let few = t.1 in
      let q : ℕ = 8 * p + b in
      let at : q / 8 ≡ p = omega arith in
      let bit : q % 8 ≡ b = omega arith in
      let set_bit : 1 ≤ wait_bit m.run q = subst (λ n. 1 ≤ n) (sym (λ i. bit_at (m.run (at i)) (bit i))) t.2 in
      let listed = below_some (λ c. count q (sound.waits.lists c)) capacity
      (omega (arith, sound.waits.once q, no_hand q)) in
      let c = listed.0 in
      let among = count_among q (sound.waits.lists c) listed.2 in
      let is : meaning.child (m.cell p) (m.cell c) = subst (λ a. meaning.child (m.cell a) (m.cell c)) at
      (each_at (λ a. meaning.child (m.cell (a / 8)) (m.cell c)) (sound.waits.lists c) q (sound.waits.joined c listed.1)
      among) in (
        c,
        listed.1,
        (
          waited_stands meaning capacity m views sound.blank sound.waits c q listed.1 among,
          goals (m.cell p) (m.cell c) (sound.cells.enter p near holds.0) is,
        ),
        waited_open meaning capacity m views sound.blank sound.waits c q listed.1 among,
        is,
      ))
      (λ none_of. absurd (none_ready p near holds (same_from_bits (m.run p) 0 (λ i.
      ⊎_elim
      (λ low. none_of i low ∙ sym (bit_at-zero i))
      (λ high. ⊎_elim
      (λ e. ap (bit_at (m.run p)) e ∙ was.running ∙ omega (arith, no_right p) ∙ sym (bit_at-zero i))
      (λ ne. was.small i (omega arith) ∙ sym (bit_at-zero i))
      (cases_eq i 8))
      (cases_lt i 8)))))
      (some_bit (m.run p) 8)

  finished_below : (n p : ℕ) → p < capacity → HoldsGoal meaning capacity m.cell p → rank (m.cell p) < n
      → 2 ^ 63 ≤ m.head p
  finished_below zero p near holds less = absurd (omega arith)
  finished_below (suc n) p near holds less =
      let was = sound.rights p near in
      ⊎_elim
      (λ none_ended.
      let t = waits_for p near holds (omega arith) in
      let fewer = falls (m.cell p) (m.cell t.0) t.4 in
      let closed = finished_below n t.0 t.1 t.2 (omega arith) in
      let is_open = t.3 in
      absurd (omega arith))
      (λ some_ended. let is = was.closed (omega (arith, was.once)) in omega arith)
      (cases_lt (ended views p) 1)

  -- every goal in the cells is finished
  pub all_finished : (p : ℕ) → p < capacity → HoldsGoal meaning capacity m.cell p → 2 ^ 63 ≤ m.head p
  all_finished p near holds = finished_below (rank (m.cell p) + 1) p near holds (omega arith)

-- a sum over seats of which all but one add nothing
pub total_only : {A : Type 0} (f : A → ℕ) (l : List A) (j : ℕ) (v : A) → get_elem? l j ≡ some v
    → ((k : ℕ) (u : A) → k ≢ j → get_elem? l k ≡ some u → f u ≡ 0) → total f l ≡ f v
total_only f [] j v at others = absurd (some-ne-none v (sym at))
total_only f (x ∷ xs) zero v at others =
    omega (
      arith,
      ap f (some-injective x v at),
      total_none f xs (λ k u there. others (suc k) u (λ e. omega arith) there),
    )
  where
    total_none : {A : Type 0} (f : A → ℕ) (l : List A) → ((k : ℕ) (u : A) → get_elem? l k ≡ some u → f u ≡ 0)
        → total f l ≡ 0
    total_none f [] others = refl
    total_none f (y ∷ ys) others = omega (arith, others 0 y refl, total_none f ys (λ k u there. others (suc k) u there))
total_only f (x ∷ xs) (suc j) v at others =
    omega (
      arith,
      others 0 x (λ e. omega arith) refl,
      total_only f xs j v at (λ k u ne there. others (suc k) u (λ e. ne (omega arith)) there),
    )

-- where one seat has all parts, the others are spent
pub others_spent : {R : Type 0} (meaning : Meaning) (rules : R) (capacity : ℕ) (m : Mem) (views : List (Hands R))
    (id : ℕ)
    (v : Hands R) → IsSoundBy meaning rules capacity m views → get_elem? views id ≡ some v
    → v.parts ≡ 64 → (k : ℕ) (u : Hands R) → k ≢ id → get_elem? views k ≡ some u → u ≡ spent
others_spent meaning rules capacity m views id v sound mine all k u ne there =
    let both = terms_le (λ (h : Hands _). h.parts) views id k v u ne mine there in
    ⊎_elim (λ (e : u ≡ spent). e) (λ t. let some_part = t.0 in absurd (omega (arith, sound.parts)))
    (sound.hands k u there).awake

-- so a sum over all seats is that seat's
pub only_seat : {R : Type 0} (meaning : Meaning) (rules : R) (capacity : ℕ) (m : Mem) (views : List (Hands R)) (id : ℕ)
    (v : Hands R) → IsSoundBy meaning rules capacity m views → get_elem? views id ≡ some v
    → v.parts ≡ 64 → (f : Hands R → ℕ) → f spent ≡ 0 → total f views ≡ f v
only_seat meaning rules capacity m views id v sound mine all f none_spent =
    total_only f views id v mine (λ k u ne there.
    ap f (others_spent meaning rules capacity m views id v sound mine all k u ne there) ∙ none_spent)

-- where one seat has all parts, no right, no wait half put in and no list half walked, and no goal is ready, every goal
-- in the cells is finished
pub no_wake_up_lost : {R : Type 0} (meaning : Meaning) (rules : R) (capacity : ℕ) (m : Mem) (views : List (Hands R))
    (id : ℕ) (v : Hands R) → IsSoundBy meaning rules capacity m views → get_elem? views id ≡ some v
    → v.parts ≡ 64 → v.rights ≡ [] → v.pending ≡ None → v.walk.waiters ≡ []
    → ((goal child : ℕ) → meaning.entry goal → meaning.child goal child → IsTrue (meaning.goal child))
    → (rank : ℕ → ℕ) → ((goal child : ℕ) → meaning.child goal child → rank child < rank goal)
    → ((p : ℕ) → p < capacity → HoldsGoal meaning capacity m.cell p → m.run p ≢ 0)
    → (p : ℕ) → p < capacity → HoldsGoal meaning capacity m.cell p → 2 ^ 63 ≤ m.head p
no_wake_up_lost meaning rules capacity m views id v sound mine all no_right free walked goals rank falls none_ready =
    all_finished meaning rules capacity m views sound
    (λ p. only_seat meaning rules capacity m views id v sound mine all (λ (h : Hands _). rights_at p h.rights) refl
    ∙ ap (rights_at p) no_right)
    (λ q. only_seat meaning rules capacity m views id v sound mine all
    (λ (h : Hands _). count q (in_hand h.pending h.walk))
    refl
    ∙ ap (λ o. count q (in_hand o v.walk)) free ∙ ap (count q) walked)
    goals rank falls none_ready

-- a goal that is registered with a child is not ready while the child is not finished
pub registered_not_ready : {R : Type 0} (meaning : Meaning) (capacity : ℕ) (m : Mem) (views : List (Hands R))
    (waits : KeepsWaits meaning capacity m.cell m.run m.head m.next views)
    (c q : ℕ) → c < capacity → 1 ≤ count q (waits.lists c) → m.run (q / 8) ≢ 0
registered_not_ready meaning capacity m views waits c q near at =
    bit_runs (m.run (q / 8)) (q % 8) (listed_waits meaning capacity m.cell m.head m.next m.run views waits c q near at)

-- one of the places has a ready goal, or none has
pub some_ready : (meaning : Meaning) (capacity : ℕ) (cell run : ℕ → ℕ) (n : ℕ)
    → ((p : ℕ) × (p < n) × HoldsGoal meaning capacity cell p × (run p ≡ 0))
    ⊎ ((p : ℕ) → p < n → HoldsGoal meaning capacity cell p → run p ≢ 0)
some_ready meaning capacity cell run zero = inr (λ p less. absurd (omega arith))
some_ready meaning capacity cell run (suc n) =
    ⊎_elim
    (λ t. inl (t.0, omega (arith, t.1), t.2, t.3))
    (λ none_of. at (cases_eq (cell n) 0) (cases_eq (run n) 0) (meaning.goal (cell n)) refl none_of)
    (some_ready meaning capacity cell run n)
  where
    at : ((cell n ≡ 0) ⊎ (cell n ≢ 0)) → ((run n ≡ 0) ⊎ (run n ≢ 0)) → (b : Bool) → meaning.goal (cell n) ≡ b
        → ((p : ℕ) → p < n → HoldsGoal meaning capacity cell p → run p ≢ 0)
        → ((p : ℕ) × (p < suc n) × HoldsGoal meaning capacity cell p × (run p ≡ 0))
        ⊎ ((p : ℕ) → p < suc n → HoldsGoal meaning capacity cell p → run p ≢ 0)
    at (inl empty) any b is none_of = inr (λ p less holds.
        ⊎_elim (λ e. absurd (holds.0 (ap cell e ∙ empty))) (λ ne. none_of p (omega arith) holds) (cases_eq p n))
    at (inr taken) (inr busy) b is none_of =
        inr (λ p less holds. ⊎_elim (λ e. λ zero_run. busy (ap run (sym e) ∙ zero_run))
        (λ ne. none_of p (omega arith) holds) (cases_eq p n))
    at (inr taken) (inl ready) true is none_of = inl (n, omega arith, (taken, is), ready)
    at (inr taken) (inl ready) false is none_of =
        inr (λ p less holds. ⊎_elim (λ e. let no : false ≡ true = sym (ap (λ k. meaning.goal (cell k)) e ∙ is)
        ∙ holds.1 in let bad : ⊥ = cc in absurd bad) (λ ne. none_of p (omega arith) holds) (cases_eq p n))
