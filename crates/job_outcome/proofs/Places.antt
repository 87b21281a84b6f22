-- What is read of a board's words, one place after the other.
use Rattle.std.proofs.Common.{◌≡◌, ◌≢◌, ◌==◌, ℕ, zero, suc, ◌^◌, ◌<◌, ◌≤◌, nat_le, nat_eq, Bool, true, false}
use Rattle.std.proofs.Common.{cond, List, [], ◌∷◌, ◌++◌, map, All, Contains, refl, sym, subst, ap}
use Rattle.std.proofs.Common.{◌∙◌, arith, ◌⊎◌, inl, inr, leb-true, leb-false, eqb-true, ne_eqb}
use Rattle.std.specs.List.{IsDistinct}
use Rattle.std.proofs.lemmas.List.{map-append}
use Rattle.std.proofs.lemmas.List.Elements.{All-nil, All-push, All-map, Contains-push, Contains-append_left}
use Rattle.std.proofs.lemmas.List.Folds.{list_any_none}
use Rattle.std.proofs.lemmas.Map.Keys.{IsDistinct-push}
use Rattle.std.proofs.lemmas.Bool.{eqb-false}
use Rattle.std.proofs.lemmas.Cmp.{nat_eq_equiv}
use Rattle.word_table.specs.Probing.{IsWordSet}
use Rattle.board_rule.specs.Words.{Mem}
use Rattle.goal_board.specs.declared.answers.Finished.{Finished}
use Rattle.goal_board.specs.Closed.{cells_below, finished_at, finished_below, with_closed}
use Rattle.job_outcome.proofs.ListLemmas.{distinct_nil}

abbrev pub goal_in : Finished → ℕ
goal_in f = f.goal

-- ---- by the head of a place, and by its cell

by_test : {A : Type 0} (Fact : List A → Type 0) (head : ℕ) (items more : List A) (b : Bool) → nat_le (2 ^ 63) head ≡ b
    → (2 ^ 63 ≤ head → Fact more) → (head < 2 ^ 63 → Fact items)
    → Fact (cond b more items)
by_test Fact head items more true is closed low = closed (leb-true (2 ^ 63) head is)
by_test Fact head items more false is closed low = low (leb-false (2 ^ 63) head is)

-- what holds whether the head is closed or open
pub by_head : {A : Type 0} (Fact : List A → Type 0) (head : ℕ) (items : List A) (item : A)
    → (2 ^ 63 ≤ head → Fact (items ++ item ∷ [])) → (head < 2 ^ 63 → Fact items)
    → Fact (with_closed head items item)
by_head Fact head items item closed low =
    by_test Fact head items (items ++ item ∷ []) (nat_le (2 ^ 63) head) refl closed low

by_zero : (Fact : List ℕ → Type 0) (word : ℕ) (cells more : List ℕ) (b : Bool) → (word == 0) ≡ b
    → (word ≡ 0 → Fact cells) → (word ≢ 0 → Fact more) → Fact (cond b cells more)
by_zero Fact word cells more true is empty taken = empty (eqb-true word 0 is)
by_zero Fact word cells more false is empty taken = taken (eqb-false word 0 is)

-- what holds whether the cell is empty or taken
pub by_cell : (Fact : List ℕ → Type 0) (word : ℕ) (cells : List ℕ) → (word ≡ 0 → Fact cells)
    → (word ≢ 0 → Fact (cells ++ word ∷ [])) → Fact (cond (word == 0) cells (cells ++ word ∷ []))
by_cell Fact word cells empty taken = by_zero Fact word cells (cells ++ word ∷ []) (word == 0) refl empty taken

-- a place below the next number is below this one, or is it
pub below_or_at : (p n : ℕ) → p < suc n → (p < n) ⊎ (p ≡ n)
below_or_at zero zero within = inr refl
below_or_at zero (suc n) within = inl (omega arith)
below_or_at (suc p) zero within = absurd (omega (arith, within))
below_or_at (suc p) (suc n) within = elim (below_or_at p n (omega (arith, within))) [
  | inl below ↦
      inl (omega (arith, below))
  | inr at ↦ inr (ap suc at)
]

-- ---- finished goals

-- what holds of each finished goal
pub all_below : (m : Mem) (Fact : Finished → Type 0) (n : ℕ)
    → ((p : ℕ) → p < n → 2 ^ 63 ≤ m.head p → Fact (finished_at m p)) → All Fact (finished_below m n)
all_below m Fact zero each = All-nil Fact
all_below m Fact (suc n) each =
    let before = all_below m Fact n (λ p within. each p (omega (arith, within))) in
    by_head (All Fact) (m.head n) (finished_below m n) (finished_at m n)
    (λ closed. All-push Fact (finished_below m n) (finished_at m n) before (each n (omega arith) closed))
    (λ _. before)

-- each goal with a closed head is there
pub contains_below : (m : Mem) (n p : ℕ) → p < n → 2 ^ 63 ≤ m.head p → Contains (finished_below m n) (finished_at m p)
contains_below m zero p within closed = absurd (omega (arith, within))
contains_below m (suc n) p within closed =
    let earlier = λ (below : p < n). contains_below m n p below closed in
    elim (below_or_at p n within) [
      | inl below ↦ by_head (λ l. Contains l (finished_at m p)) (m.head n) (finished_below m n) (finished_at m n)
          (λ _. Contains-append_left (finished_below m n) (finished_at m n ∷ []) (finished_at m p) (earlier below))
          (λ _. earlier below)
      | inr at ↦ by_head (λ l. Contains l (finished_at m p)) (m.head n) (finished_below m n) (finished_at m n)
          (λ _. subst (λ (k : ℕ). Contains (finished_below m n ++ finished_at m n ∷ []) (finished_at m k)) (sym at)
          (Contains-push (finished_below m n) (finished_at m n)))
          (λ low. absurd (omega (arith, low, closed, subst (λ (k : ℕ). 2 ^ 63 ≤ m.head k) at closed)))
    ]

-- they differ, as no word stands in two cells
pub goals_differ : (m : Mem) (capacity : ℕ) → IsWordSet capacity m.cell
    → ((p : ℕ) → p < capacity → 2 ^ 63 ≤ m.head p → m.cell p ≢ 0) → (n : ℕ) → n ≤ capacity
    → IsDistinct nat_eq (map goal_in (finished_below m n))
goals_differ m capacity set taken zero few = distinct_nil
goals_differ m capacity set taken (suc n) few =
    let before = goals_differ m capacity set taken n (omega (arith, few)) in
    let apart = λ (p : ℕ) (within : p < n) (closed : 2 ^ 63 ≤ m.head p). ne_eqb (m.cell n) (m.cell p)
    (λ same. absurd (omega (
      arith,
      within,
      set.once p n (omega (arith, within, few)) (omega (arith, few))
          (taken p (omega (arith, within, few)) closed) (sym same),
    ))) in
    by_head (λ l. IsDistinct nat_eq (map goal_in l)) (m.head n) (finished_below m n) (finished_at m n)
    (λ _. subst (IsDistinct nat_eq) (sym (map-append goal_in (finished_below m n) (finished_at m n ∷ [])))
    (IsDistinct-push nat_eq_equiv (map goal_in (finished_below m n)) (m.cell n) before
    (list_any_none (nat_eq (m.cell n)) (map goal_in (finished_below m n))
    (All-map (λ x. nat_eq (m.cell n) x ≡ false) goal_in (finished_below m n)
    (all_below m (λ f. nat_eq (m.cell n) f.goal ≡ false) n apart)))))
    (λ _. before)

-- ---- taken cells

pub all_cells : (m : Mem) (Fact : ℕ → Type 0) (n : ℕ) → ((p : ℕ) → p < n → m.cell p ≢ 0 → Fact (m.cell p))
    → All Fact (cells_below m n)
all_cells m Fact zero each = All-nil Fact
all_cells m Fact (suc n) each =
    let before = all_cells m Fact n (λ p within. each p (omega (arith, within))) in
    by_cell (All Fact) (m.cell n) (cells_below m n) (λ _. before)
    (λ taken. All-push Fact (cells_below m n) (m.cell n) before (each n (omega arith) taken))

pub contains_cell : (m : Mem) (n p : ℕ) → p < n → m.cell p ≢ 0 → Contains (cells_below m n) (m.cell p)
contains_cell m zero p within taken = absurd (omega (arith, within))
contains_cell m (suc n) p within taken =
    elim (below_or_at p n within) [
      | inl below ↦ by_cell (λ l. Contains l (m.cell p)) (m.cell n) (cells_below m n)
          (λ _. contains_cell m n p below taken)
          (λ _. Contains-append_left (cells_below m n) (m.cell n ∷ []) (m.cell p) (contains_cell m n p below taken))
      | inr at ↦ by_cell (λ l. Contains l (m.cell p)) (m.cell n) (cells_below m n)
          (λ empty. absurd (taken (ap m.cell at ∙ empty)))
          (λ _. subst (λ (k : ℕ). Contains (cells_below m n ++ m.cell n ∷ []) (m.cell k)) (sym at)
          (Contains-push (cells_below m n) (m.cell n)))
    ]

pub cells_differ : (m : Mem) (capacity : ℕ) → IsWordSet capacity m.cell → (n : ℕ) → n ≤ capacity
    → IsDistinct nat_eq (cells_below m n)
cells_differ m capacity set zero few = distinct_nil
cells_differ m capacity set (suc n) few =
    let before = cells_differ m capacity set n (omega (arith, few)) in
    let apart = λ (p : ℕ) (within : p < n) (taken : m.cell p ≢ 0). ne_eqb (m.cell n) (m.cell p)
    (λ same. absurd (omega (
      arith,
      within,
      set.once p n (omega (arith, within, few)) (omega (arith, few)) taken
          (sym same),
    ))) in
    by_cell (IsDistinct nat_eq) (m.cell n) (cells_below m n) (λ _. before)
    (λ _. IsDistinct-push nat_eq_equiv (cells_below m n) (m.cell n) before
    (list_any_none (nat_eq (m.cell n)) (cells_below m n) (all_cells m (λ x. nat_eq (m.cell n) x ≡ false) n apart)))
