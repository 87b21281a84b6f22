-- How many members and goals there are, and that a query has not more entries than fit.
use Rattle.std.proofs.Common.{◌≡◌, ◌≢◌, ℕ, zero, suc, ◌+◌, ◌^◌, ◌<◌, ◌≤◌, nat_eq, Bool, true, false, cond, List, []}
use Rattle.std.proofs.Common.{◌∷◌, ◌++◌, length, All, Contains, filter, refl, sym, subst, ap, ◌∙◌, arith, inl, inr}
use Rattle.std.proofs.Common.{le-leb, eqb-true, not}
use Rattle.std.specs.List.{list_any}
use Rattle.std.proofs.lemmas.List.{length-append}
use Rattle.std.proofs.lemmas.List.Elements.{filter-append, Contains-append_left, Contains-append_right}
use Rattle.std.proofs.lemmas.List.Folds.{Any-from_list_any}
use Rattle.std.proofs.lemmas.Map.Made.{length-le_from_is_member}
use Rattle.std.proofs.lemmas.Map.Views.{list_any-from_Contains}
use Rattle.std.proofs.lemmas.Cmp.{nat_eq_equiv}
use Rattle.query_core.specs.Goals.{goal_bit}
use Rattle.query_core.specs.declared.query.Query.{Query}
use Rattle.xform_rules.specs.Closure.{IsClosureOf}
use Rattle.goal_space.specs.Entries.{IsEntry}
use Rattle.goal_children.specs.Listed.{AreGoalsOf}
use Rattle.board_rule.specs.Words.{Mem}
use Rattle.goal_board.specs.Closed.{cells_below, finished_at, finished_below}
use Rattle.job_outcome.specs.Outcomes.{HasMoreEntries, FitsIn}
use Rattle.job_outcome.specs.Searched.{is_member_word}
use Rattle.job_outcome.proofs.Places.{by_cell, by_head}

abbrev members_in : List ℕ → ℕ
members_in cells = length (filter is_member_word cells)

one_by : (b : Bool) (word : ℕ) → length (cond b (word ∷ []) []) ≤ 1
one_by true word = omega arith
one_by false word = omega arith

-- a word more is one member more at most
one_more : (cells : List ℕ) (word : ℕ) → members_in (cells ++ word ∷ []) ≤ members_in cells + 1
one_more cells word =
    let counted = ap length (filter-append is_member_word cells (word ∷ []))
    ∙ length-append (filter is_member_word cells) (filter is_member_word (word ∷ [])) in
    omega (arith, counted, one_by (is_member_word word) word)

-- and none where it is not below the words of goals
none_more : (cells : List ℕ) (word : ℕ) → goal_bit ≤ word → members_in (cells ++ word ∷ []) ≤ members_in cells
none_more cells word high =
    let counted = ap length (filter-append is_member_word cells (word ∷ []))
    ∙ length-append (filter is_member_word cells) (filter is_member_word (word ∷ [])) in
    let none : length (filter is_member_word (word ∷ [])) ≡ 0 =
    ap (λ (b : Bool). length (cond b (word ∷ []) [])) (ap not (le-leb goal_bit word high)) in
    omega (arith, counted, none)

-- members and finished goals stand in different cells
pub few_below : (m : Mem) (capacity : ℕ) → ((p : ℕ) → p < capacity → 2 ^ 63 ≤ m.head p → goal_bit ≤ m.cell p) → (n : ℕ)
    → n ≤ capacity
    → members_in (cells_below m n) + length (finished_below m n) ≤ n
few_below m capacity high zero few = omega arith
few_below m capacity high (suc n) few =
    let before = few_below m capacity high n (omega (arith, few)) in
    let cells = cells_below m n in
    let finished = finished_below m n in
    by_head (λ l. members_in (cells_below m (suc n)) + length l ≤ suc n) (m.head n) finished (finished_at m n)
    (λ closed. by_cell (λ l. members_in l + length (finished ++ finished_at m n ∷ []) ≤ suc n) (m.cell n) cells
    (λ _. omega (arith, before, length-append finished (finished_at m n ∷ [])))
    (λ _. omega (
      arith,
      before,
      length-append finished (finished_at m n ∷ []),
      none_more cells (m.cell n) (high n (omega (arith, few)) closed),
    )))
    (λ _. by_cell (λ l. members_in l + length finished ≤ suc n) (m.cell n) cells (λ _. omega (arith, before))
    (λ _. omega (arith, before, one_more cells (m.cell n))))

-- where every cell is taken there are as many words as cells
pub cells_all : (m : Mem) (capacity : ℕ) → ((p : ℕ) → p < capacity → m.cell p ≢ 0) → (n : ℕ) → n ≤ capacity
    → length (cells_below m n) ≡ n
cells_all m capacity taken zero few = refl
cells_all m capacity taken (suc n) few =
    let before = cells_all m capacity taken n (omega (arith, few)) in
    by_cell (λ l. length l ≡ suc n) (m.cell n) (cells_below m n) (λ empty. absurd (taken n (omega (arith, few)) empty))
    (λ _. omega (arith, before, length-append (cells_below m n) (m.cell n ∷ [])))

-- each entry is in one of the two lists
entry_listed : (q : Query) (members goals : List ℕ) → IsClosureOf q members → AreGoalsOf q goals → (word : ℕ)
    → IsEntry q word → Contains (members ++ goals) word
entry_listed q members goals closure all word (inl (e, member, is)) =
    Contains-append_left members goals word (subst (Contains members) is (closure.complete e member))
entry_listed q members goals closure all word (inr (goal, names)) =
    Contains-append_right members goals word (subst (Contains goals) names.number (all.complete goal names.is_goal))

-- a word that a test finds in the list is an entry
found_enters : (q : Query) (words : List ℕ) (word : ℕ) → All (IsEntry q) words → list_any (nat_eq word) words ≡ true
    → IsEntry q word
found_enters q words word enter found =
    let (k, x, within, at, passes) = Any-from_list_any (nat_eq word) words found in
    subst (IsEntry q) (at ∙ sym (eqb-true word x passes)) (enter k x within)

-- different entries are at most as many as the entries of both lists
pub fit_or_not : (q : Query) (capacity : ℕ) (members goals : List ℕ) → FitsIn q capacity members goals
    → HasMoreEntries q capacity → ⊥
fit_or_not q capacity members goals fits has =
    let listed = λ (word : ℕ) (found : list_any (nat_eq word) has.entries ≡ true).
    list_any-from_Contains nat_eq_equiv word (members ++ goals)
    (entry_listed q members goals fits.closure fits.all_goals word (found_enters q has.entries word has.enter found)) in
    let few = length-le_from_is_member nat_eq_equiv has.entries (members ++ goals) has.differ listed in
    absurd (omega (arith, few, length-append members goals, fits.few, has.more))
