-- Laws of the sides of a join: a left child has one set of tables, and with it one right child.
use Rattle.std.proofs.Common.{◌≡◌, ℕ, ◌-◌, ◌<◌, ◌≤◌, ◌^◌, Some, None, length, refl, ap, sym, subst, ◌∙◌, arith}
use Rattle.std.specs.Prelude.{◌==◌, bit_or}
use Rattle.std.specs.Int.{trailing_zeros, w32}
use Rattle.std.proofs.Math.Nat.{pow-le-pow_right}
use Rattle.std.proofs.lemmas.Bool.{cond_both, eqb-true}
use Rattle.std.proofs.lemmas.Nat.{le_or_l, le_or_r}
use Rattle.query_core.specs.Sets.{bit, only_of}
use Rattle.query_core.specs.Keys.{key_number, IsGroupInRange, tables_of, top_of}
use Rattle.query_core.specs.Expressions.{FallsInto}
use Rattle.query_core.specs.declared.query.Query.{Query}
use Rattle.query_core.specs.declared.words.KeyParts.{KeyParts}
use Rattle.query_core.specs.declared.words.KeyParts.TheVariants.{Join}
use Rattle.query_core.proofs.Splitting.{tables_top, number_top, right_one, rest_disjoint, left_within}
use Rattle.request_props.specs.Joins.{IsSide, HasSides, AreSidesAt}
use Rattle.request_props.specs.declared.tables.candidates.sides.Sides.{Sides}

-- a set of the query's tables is one of the first ten tables
pub of_tables_small : (q : Query) (tables : ℕ) → tables < 2 ^ length q.tables → IsGroupInRange (Join tables)
of_tables_small q tables of_tables =
    let few : 2 ^ length q.tables ≤ 2 ^ 10 = pow-le-pow_right (omega arith) q.tables_valid.few in
    omega (arith, of_tables, few)

some_one : (t u : ℕ) → Some t ≡ Some u → t ≡ u
some_one t u same = cc

some_none : (t : ℕ) → Some t ≡ None → ⊥
some_none t same = cc

-- a set with one table alone is that table's
pub only_table : (tables t : ℕ) → Some t ≡ only_of tables → tables ≡ 2 ^ t
only_table tables t is =
    let least = trailing_zeros w32 tables in
    cond_both (tables == 2 ^ least) (Some least) None (λ o. Some t ≡ o → tables ≡ 2 ^ t)
    (λ same found. eqb-true tables (2 ^ least) same ∙ ap (λ x. 2 ^ x) (sym (some_one t least found)))
    (λ differs found. absurd (some_none t found))
    is

-- sides are the same where both groups are
same_sides : (left other right rest : KeyParts) → left ≡ other → right ≡ rest
    → (let x : Sides = record { left = left; right = right } in x) ≡ (let y : Sides =
    record { left = other; right = rest } in y)
same_sides left other right rest first second =
    ap (λ (g : KeyParts). let x : Sides = record { left = g; right = right } in x) first
    ∙ ap (λ (g : KeyParts). let x : Sides = record { left = other; right = g } in x) second

module _ (q : Query) (set left : ℕ) (group : KeyParts) (tables others : ℕ) (small : IsGroupInRange (Join set))
    (in_range : IsGroupInRange group) (number : key_number group ≡ left) (joined : tables ≡ tables_of group)
    (rest : (t : ℕ)
    → bit others t ≡ bit set t - bit tables t) where
  -- sides with a left key of this number are these tables and the others, and the group joins these
  pub own_sides : HasSides q set left → FallsInto q set tables others × (group ≡ top_of q tables)
  own_sides (a, b, falls, is) =
      let named : group ≡ top_of q a = number_top q a (key_number group) group in_range refl
      (omega (arith, left_within q set a b falls, small)) (omega (arith, is, number)) in
      let own : a ≡ tables = sym (joined ∙ (ap tables_of named ∙ tables_top q a)) in
      let first : FallsInto q set tables b = subst (λ x. FallsInto q set x b) own falls in
      let second : b ≡ others = right_one q set tables b others first rest in
      (subst (FallsInto q set tables) second first, named ∙ ap (top_of q) own)

  -- where both are sides and make the set, it falls into them
  pub sides_found : (first second : KeyParts) → bit_or tables others ≡ set → IsSide q tables → IsSide q others
      → first ≡ top_of q tables → first ≡ group
      → second ≡ top_of q others → AreSidesAt q set left (record { left = first; right = second })
  sides_found first second whole one other is same second_is = (
    (
      tables,
      others,
      record {
        whole = whole;
        disjoint = rest_disjoint set tables others rest;
        left = one.1;
        right = other.1;
        some_left = one.0;
        some_right = other.0;
      },
      same_sides first (top_of q tables) second (top_of q others) is second_is,
    ),
    ap key_number same ∙ number,
  )

-- each of two sets has its tables in their union
pub union_of_tables : (set tables others count : ℕ) → bit_or tables others ≡ set → set < count → (tables < count)
    × (others < count)
union_of_tables set tables others count whole of_tables =
    (omega (arith, le_or_l tables others, whole, of_tables), omega (arith, le_or_r tables others, whole, of_tables))
