-- The children of an expression by its operator: their groups have lesser keys.
use Rattle.std.proofs.Common.{◌≡◌, ℕ, ◌<◌, ◌≤◌, ◌+◌, ◌*◌, ◌-◌, subst, sym, inl, inr, arith}
use Rattle.std.specs.Prelude.{◌^◌, length, None, Some, bit_or, bit_and, cond, nat_eq}
use Rattle.std.specs.Option.{option_map_or}
use Rattle.std.specs.Int.{trailing_zeros, w32}
use Rattle.std.specs.Int.Bits.{or_add_and}
use Rattle.std.proofs.Math.Nat.{pow-le-pow_right}
use Rattle.std.proofs.lemmas.Nat.{trailing_le}
use Rattle.std.proofs.lemmas.Bool.{cases_Bool}
use Rattle.query_core.specs.Keys.{key_number, has_own, group_of_table, top_of, input_of}
use Rattle.query_core.specs.Expressions.{physical_children, HasPhysical, IsFiltered, IsJoin, IsAggregated, IsPartial}
use Rattle.query_core.specs.Expressions.{IsChild}
use Rattle.query_core.specs.declared.query.Query.{Query}
use Rattle.query_core.specs.declared.words.KeyParts.{KeyParts}
use Rattle.query_core.specs.declared.words.KeyParts.TheVariants as groups
use Rattle.query_core.specs.declared.expressions.Physical.{Physical}
use Rattle.query_core.specs.declared.expressions.Children.{Children}
use Rattle.query_core.specs.declared.expressions.Children.TheVariants.{Zero, One, Two}
use Rattle.std.specs.Prelude.{List, [], ◌∷◌, ⊤}
use Rattle.plan_space.specs.Choices.{groups_of}
use Rattle.plan_space.specs.Ways.{way_of}
use Rattle.plan_space.specs.declared.ways.Kept.TheVariants.{Rows, SpreadRows}
use Rattle.plan_space.specs.declared.ways.Way.{Way}
use Rattle.plan_space.specs.declared.ways.Way.TheVariants.{Reads, Passes, Joins, Groups}
use Rattle.plan_space.proofs.NodeCounts.{group_nodes, nodes_below, some_nodes}
use Rattle.plan_space.proofs.WayShapes.{way_children, WayShape, children_same, way_shape}

-- each of the groups has a lesser key
abbrev pub HaveLesserKeys : KeyParts → List KeyParts → Type 0
HaveLesserKeys group [] = ⊤
HaveLesserKeys group (child ∷ others) = (key_number child < key_number group) × HaveLesserKeys group others

-- the groups have lesser keys, and least plans of them have fewer nodes together
pub record AreLesser (group : KeyParts) (below : List KeyParts) : Type 0 where
  pub keys : HaveLesserKeys group below
  pub nodes : 1 + nodes_below below ≤ group_nodes group

-- ---- groups of tables

alone_nodes : (q : Query) (t : ℕ) → group_nodes (group_of_table q t) ≤ 8
alone_nodes q t = elim (cases_Bool (has_own q t)) [
  | inl is ↦ subst (λ b. group_nodes (cond b (groups.Filter t) (groups.Get t)) ≤ 8) (sym is) (omega arith)
  | inr is ↦ subst (λ b. group_nodes (cond b (groups.Filter t) (groups.Get t)) ≤ 8) (sym is) (omega arith)
]

-- a set's group has few nodes
top_nodes : (q : Query) (a : ℕ) → 0 < a → group_nodes (top_of q a) ≤ 1 + (16 * a - 8)
top_nodes q a some =
    let t = trailing_zeros w32 a in
    elim (cases_Bool (nat_eq a (2 ^ t))) [
      | inl is ↦ subst (λ b. group_nodes (option_map_or (group_of_table q) (cond b (Some t) None) (groups.Join a)) ≤ 1
          + (16 * a - 8)) (sym is) (omega (arith, some, alone_nodes q t))
      | inr is ↦ subst (λ b. group_nodes (option_map_or (group_of_table q) (cond b (Some t) None) (groups.Join a)) ≤ 1
          + (16 * a - 8)) (sym is) (omega arith)
    ]

alone_key : (q : Query) (t : ℕ) → t ≤ 32 → key_number (group_of_table q t) ≤ 48
alone_key q t small = elim (cases_Bool (has_own q t)) [
  | inl is ↦ subst (λ b. key_number (cond b (groups.Filter t) (groups.Get t)) ≤ 48) (sym is) (omega (arith, small))
  | inr is ↦ subst (λ b. key_number (cond b (groups.Filter t) (groups.Get t)) ≤ 48) (sym is) (omega (arith, small))
]

-- the group of a lesser set has a lesser key than the join of a greater one
top_key : (q : Query) (a set : ℕ) → a < set → key_number (top_of q a) < 1024 + set
top_key q a set less =
    let t = trailing_zeros w32 a in
    elim (cases_Bool (nat_eq a (2 ^ t))) [
      | inl is ↦ subst (λ b. key_number (option_map_or (group_of_table q) (cond b (Some t) None) (groups.Join a)) < 1024
          + set) (sym is) (omega (arith, alone_key q t (trailing_le 32 a)))
      | inr is ↦ subst (λ b. key_number (option_map_or (group_of_table q) (cond b (Some t) None) (groups.Join a)) < 1024
          + set) (sym is) (omega (arith, less))
    ]

-- two disjoint sets that are a third together are as many as it, as numbers
parts_add : (a b set : ℕ) → bit_or a b ≡ set → bit_and a b ≡ 0 → a + b ≡ set
parts_add a b set whole disjoint = let add = or_add_and a b in omega (arith, add, whole, disjoint)

-- ---- expressions

-- the group that joins all tables has few nodes, and a lesser key than those of groups of rows
input_few : (q : Query) → (group_nodes (input_of q) ≤ 1 + (16 * 1023 - 8)) × (key_number (input_of q) < 2048)
input_few q =
    let low = pow-le-pow_right {n = 2} (omega arith) {i = 1} {j = length q.tables} q.tables_valid.some in
    let high = pow-le-pow_right {n = 2} (omega arith) {i = length q.tables} {j = 10} q.tables_valid.few in
    let some : 0 < 2 ^ length q.tables - 1 = omega (arith, low) in
    let most : 2 ^ length q.tables - 1 ≤ 1023 = omega (arith, high) in (
      omega (arith, top_nodes q (2 ^ length q.tables - 1) some, most),
      omega (arith, top_key q (2 ^ length q.tables - 1) 1024 (omega (arith, most))),
    )

module _ (q : Query) (group : KeyParts) where
  filtered_lesser : (child : KeyParts) → IsFiltered group child → AreLesser group (child ∷ [])
  filtered_lesser child (t, is, one) =
      subst (λ g. AreLesser g (child ∷ [])) (sym is)
      (subst (λ c. AreLesser (groups.Filter t) (c ∷ [])) (sym one)
      (record { keys = (omega arith, tt); nodes = omega arith }))

  partial_lesser : (child : KeyParts) → IsPartial q group child → AreLesser group (child ∷ [])
  partial_lesser child (is, one) =
      let few = input_few q in
      subst (λ g. AreLesser g (child ∷ [])) (sym is)
      (subst (λ c. AreLesser groups.Partial (c ∷ [])) (sym one)
      (record { keys = (omega (arith, few.1), tt); nodes = omega (arith, few.0) }))

  aggregated_lesser : (child : KeyParts) → IsAggregated q group child → AreLesser group (child ∷ [])
  aggregated_lesser child (is, inl one) =
      let few = input_few q in
      subst (λ g. AreLesser g (child ∷ [])) (sym is)
      (subst (λ c. AreLesser groups.Agg (c ∷ [])) (sym one)
      (record { keys = (omega (arith, few.1), tt); nodes = omega (arith, few.0) }))
  aggregated_lesser child (is, inr one) =
      subst (λ g. AreLesser g (child ∷ [])) (sym is)
      (subst (λ c. AreLesser groups.Agg (c ∷ [])) (sym one)
      (record { keys = (omega arith, tt); nodes = omega arith }))

  joined_lesser : (left right : KeyParts) → IsJoin q group left right → AreLesser group (left ∷ right ∷ [])
  joined_lesser left right (set, a, b, is, falls, first, second) =
      let add = parts_add a b set falls.whole falls.disjoint in
      subst (λ g. AreLesser g (left ∷ right ∷ [])) (sym is)
      (subst (λ l. AreLesser (groups.Join set) (l ∷ right ∷ [])) (sym first)
      (subst (λ r. AreLesser (groups.Join set) (top_of q a ∷ r ∷ [])) (sym second) (record {
        keys = (
          top_key q a set (omega (arith, add, falls.some_right)),
          (top_key q b set (omega (arith, add, falls.some_left)), tt),
        );
        nodes = omega (
          arith,
          add,
          falls.some_left,
          falls.some_right,
          top_nodes q a falls.some_left,
          top_nodes q b falls.some_right,
        );
      })))

  none_lesser : AreLesser group []
  none_lesser = record { keys = tt; nodes = some_nodes group }

  way_lesser : (way : Way) → WayShape q group way → AreLesser group (groups_of (way_children way))
  way_lesser (Reads access) shape = none_lesser
  way_lesser (Passes Rows child) shape = filtered_lesser child shape
  way_lesser (Passes SpreadRows child) shape = partial_lesser child shape
  way_lesser (Joins by left right) shape = joined_lesser left right shape
  way_lesser (Groups by child) shape = aggregated_lesser child shape

  -- the children's groups have lesser keys, and fewer nodes together
  pub children_lesser : (operator : Physical) → HasPhysical q group operator
      → AreLesser group (groups_of (physical_children operator))
  children_lesser operator shape =
      subst (λ (c : Children). AreLesser group (groups_of c)) (sym (children_same operator))
      (way_lesser (way_of operator) (way_shape q group operator shape))

  -- so does each child's
  pub child_key : (children : Children) (child : KeyParts) → HaveLesserKeys group (groups_of children)
      → IsChild children child → key_number child < key_number group
  child_key Zero child keys is = absurd is
  child_key (One only) child keys is = subst (λ c. key_number c < key_number group) (sym is) keys.0
  child_key (Two left right) child keys (inl is) = subst (λ c. key_number c < key_number group) (sym is) keys.0
  child_key (Two left right) child keys (inr is) = subst (λ c. key_number c < key_number group) (sym is) keys.1.0
