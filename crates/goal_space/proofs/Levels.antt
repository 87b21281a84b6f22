-- A group is above those that its expressions stand on.
use Rattle.std.proofs.Common.{◌≡◌, ℕ, zero, suc, Bool, true, false, ◌+◌, ◌<◌, ◌≤◌, ◌^◌, length, None, Some, refl, ap}
use Rattle.std.proofs.Common.{sym, subst, ◌∙◌, inl, inr, ◌⊎◌, arith, if◌then◌else◌}
use Rattle.std.specs.Prelude.{◌==◌, ◌-◌}
use Rattle.std.specs.Option.{option_map_or}
use Rattle.std.specs.Int.{trailing_zeros, w32}
use Rattle.std.proofs.lemmas.Bool.{cases_lt, eqb-true}
use Rattle.std.proofs.lemmas.Nat.{le_or_l, le_or_r}
use Rattle.std.proofs.lemmas.Nat.Bits.{bit_at-lt}
use Rattle.std.proofs.Math.Nat.{pow-le-pow_right}
use Rattle.query_core.specs.Sets.{bit}
use Rattle.query_core.specs.Keys.{has_own, group_of_table, top_of, input_of, IsGroup}
use Rattle.query_core.specs.Expressions.{children_of, FallsInto, IsCandidate, IsChild, IsChildrenOf}
use Rattle.query_core.specs.declared.query.Query.{Query}
use Rattle.query_core.specs.declared.words.KeyParts.{KeyParts}
use Rattle.query_core.specs.declared.words.KeyParts.TheVariants as groups
use Rattle.query_core.specs.declared.expressions.Children.{Children}
use Rattle.query_core.specs.declared.expressions.Children.TheVariants.{Zero, One, Two}
use Rattle.query_core.specs.declared.expressions.ExprParts.{ExprParts}
use Rattle.xform_rules.specs.Counts.{table_count}
use Rattle.goal_space.specs.Ranks.{level_of}

-- ---- sets

-- a set has at most ten tables
few_tables : (set : ℕ) → table_count set ≤ 10
unfolding bit
few_tables set =
    omega (
      arith,
      bit_at-lt set 0,
      bit_at-lt set 1,
      bit_at-lt set 2,
      bit_at-lt set 3,
      bit_at-lt set 4,
      bit_at-lt set 5,
      bit_at-lt set 6,
      bit_at-lt set 7,
      bit_at-lt set 8,
      bit_at-lt set 9,
    )

-- a set of one table has one
one_table : (t : ℕ) → t < 10 → table_count (2 ^ t) ≡ 1
unfolding bit
one_table zero below = refl
one_table (suc zero) below = refl
one_table (suc (suc zero)) below = refl
one_table (suc (suc (suc zero))) below = refl
one_table (suc (suc (suc (suc zero)))) below = refl
one_table (suc (suc (suc (suc (suc zero))))) below = refl
one_table (suc (suc (suc (suc (suc (suc zero)))))) below = refl
one_table (suc (suc (suc (suc (suc (suc (suc zero))))))) below = refl
one_table (suc (suc (suc (suc (suc (suc (suc (suc zero)))))))) below = refl
one_table (suc (suc (suc (suc (suc (suc (suc (suc (suc zero))))))))) below = refl
one_table (suc (suc (suc (suc (suc (suc (suc (suc (suc (suc t)))))))))) below = absurd (omega (arith, below))

-- a table whose set is one of those of ten tables is one of these
near_table : (t : ℕ) → 2 ^ t < 1024 → t < 10
near_table t small = elim (cases_lt t 10) [
  | inl below ↦ below
  | inr above ↦ let large : 2 ^ 10 ≤ 2 ^ t = pow-le-pow_right (omega arith) above in
      absurd (omega (arith, small, large))
]

-- ---- levels of the groups of sets

-- the group of one table has level 1 or 2
alone_level : (q : Query) (t : ℕ) → level_of (group_of_table q t) ≤ 2
alone_level q t = elim (has_own q t) as (λ (own : Bool). level_of (if own then groups.Filter t else groups.Get t) ≤ 2) [
  | true ↦ omega arith
  | false ↦ omega arith
]

-- the group of a set has no higher level than 1 and its number of tables, or than 2
side_by : (q : Query) (a t count : ℕ) (single : Bool) → (single ≡ true → a ≡ 2 ^ t) → a < 1024 → table_count a < count
    → level_of (option_map_or (group_of_table q) (if single then Some t else None) (groups.Join a)) < 1 + count
side_by q a t count true same small fewer =
    let is = same refl in
    let one : table_count a ≡ 1 = ap table_count is
    ∙ one_table t (near_table t (subst (λ (x : ℕ). x < 1024) is small)) in
    omega (arith, alone_level q t, one, fewer)
side_by q a t count false same small fewer = omega (arith, fewer)

-- the group of a side of a join is below that of the join
side_level : (q : Query) (a count : ℕ) → a < 1024 → table_count a < count → level_of (top_of q a) < 1 + count
side_level q a count small fewer =
    let least = trailing_zeros w32 a in
    side_by q a least count (a == 2 ^ least) (eqb-true a (2 ^ least)) small fewer

-- so is the group of all tables below those of GROUP BY
all_level : (q : Query) → level_of (input_of q) < 12
all_level q =
    let all = 2 ^ length q.tables - 1 in
    let few : 2 ^ length q.tables ≤ 2 ^ 10 = pow-le-pow_right (omega arith) q.tables_valid.few in
    side_level q all 11 (omega (arith, few)) (omega (arith, few_tables all))

-- ---- levels of children

-- the sides of splits have fewer tables
abbrev pub FewerTables : Type 0
FewerTables = (q : Query) (set a b : ℕ) → IsGroup q (groups.Join set) → FallsInto q set a b
    → (table_count a < table_count set) × (table_count b < table_count set)

-- the children of an expression are groups on which its group's operators may stand
abbrev pub ChildrenAreOfGroup : Type 0
ChildrenAreOfGroup = (q : Query) (e : ExprParts) → IsCandidate q e → IsChildrenOf q e.group (children_of e.operator)

-- a child's group is below the expression's
abbrev IsBelow : KeyParts → KeyParts → Type 0
IsBelow group child = level_of child < level_of group

-- a set that a set of the query falls into is one of ten tables
small_side : (q : Query) (set a b : ℕ) → set < 2 ^ length q.tables → FallsInto q set a b → (a < 1024) × (b < 1024)
small_side q set a b within falls =
    let few : 2 ^ length q.tables ≤ 2 ^ 10 = pow-le-pow_right (omega arith) q.tables_valid.few in
    (omega (arith, falls.whole, within, few, le_or_l a b), omega (arith, falls.whole, within, few, le_or_r a b))

sides_below : FewerTables → (q : Query) (set a b : ℕ) → IsGroup q (groups.Join set) → FallsInto q set a b
    → IsBelow (groups.Join set) (top_of q a) × IsBelow (groups.Join set) (top_of q b)
sides_below fewer q set a b known falls =
    let less = fewer q set a b known falls in
    let small = small_side q set a b known.0 falls in
    (side_level q a (table_count set) small.0 less.0, side_level q b (table_count set) small.1 less.1)

-- a child of these is below, where they are
below_none : (group child : KeyParts) (c : Children) → c ≡ Zero → IsChild c child → IsBelow group child
below_none group child c is under = absurd (subst (λ (x : Children). IsChild x child) is under)

below_one : (group own child : KeyParts) (c : Children) → c ≡ One own → IsBelow group own → IsChild c child
    → IsBelow group child
below_one group own child c is lower under =
    subst (IsBelow group) (sym (subst (λ (x : Children). IsChild x child) is under)) lower

below_two : (group left right child : KeyParts) (c : Children) → c ≡ Two left right
    → IsBelow group left × IsBelow group right → IsChild c child → IsBelow group child
below_two group left right child c is (left_lower, right_lower) under =
    elim (subst (λ (x : Children). IsChild x child) is under) [
      | inl same ↦ subst (IsBelow group) (sym same) left_lower
      | inr same ↦ subst (IsBelow group) (sym same) right_lower
    ]

children_below : FewerTables → (q : Query) (group child : KeyParts) (c : Children) → IsGroup q group
    → IsChildrenOf q group c → IsChild c child → IsBelow group child
children_below fewer q (groups.Get t) child c known is under = below_none (groups.Get t) child c is under
children_below fewer q (groups.Filter t) child c known (inl none) under =
    below_none (groups.Filter t) child c none under
children_below fewer q (groups.Filter t) child c known (inr one) under =
    below_one (groups.Filter t) (groups.Get t) child c one (omega arith) under
children_below fewer q (groups.Join set) child c known (inl none) under =
    below_none (groups.Join set) child c none under
children_below fewer q (groups.Join set) child c known (inr (a, b, falls, two)) under =
    below_two (groups.Join set) (top_of q a) (top_of q b) child c two (sides_below fewer q set a b known falls) under
children_below fewer q groups.Partial child c known one under =
    below_one groups.Partial (input_of q) child c one (all_level q) under
children_below fewer q groups.Agg child c known (inl all) under =
    below_one groups.Agg (input_of q) child c all (omega (arith, all_level q)) under
children_below fewer q groups.Agg child c known (inr parts) under =
    below_one groups.Agg groups.Partial child c parts (omega arith) under

-- the groups on which a candidate stands are below its own
pub child_below : FewerTables → ChildrenAreOfGroup → (q : Query) (e : ExprParts) (child : KeyParts) → IsCandidate q e
    → IsChild (children_of e.operator) child
    → level_of child < level_of e.group
child_below fewer by_group q e child candidate is =
    children_below fewer q e.group child (children_of e.operator) candidate.known (by_group q e candidate) is
