-- The sides of a split have fewer tables.
use Rattle.std.proofs.Common.{◌≡◌, ℕ, zero, suc, ◌+◌, ◌<◌, ◌≤◌, ◌^◌, inl, inr, arith, ap, sym, ◌∙◌, max, min}
use Rattle.std.specs.Prelude.{bit_or, length}
use Rattle.std.proofs.lemmas.Bool.{cases_lt}
use Rattle.std.proofs.lemmas.Nat.{le_or_l, le_or_r}
use Rattle.std.proofs.Math.Nat.{pow-le-pow_right}
use Rattle.query_core.specs.Sets.{bit}
use Rattle.query_core.specs.Keys.{IsGroup}
use Rattle.query_core.specs.Expressions.{FallsInto}
use Rattle.query_core.specs.declared.query.Query.{Query}
use Rattle.query_core.specs.declared.words.KeyParts.TheVariants as groups
use Rattle.query_core.proofs.Bits.{bit-and, bit-beyond, bit-none, bit-or, same_tables}
use Rattle.xform_rules.specs.Counts.{table_count}

-- a set of none of the ten tables has none of them
no_table : (set t : ℕ) → table_count set ≤ 0 → t < 10 → bit set t ≡ 0
no_table set zero none below = omega (arith, none)
no_table set (suc zero) none below = omega (arith, none)
no_table set (suc (suc zero)) none below = omega (arith, none)
no_table set (suc (suc (suc zero))) none below = omega (arith, none)
no_table set (suc (suc (suc (suc zero)))) none below = omega (arith, none)
no_table set (suc (suc (suc (suc (suc zero))))) none below = omega (arith, none)
no_table set (suc (suc (suc (suc (suc (suc zero)))))) none below = omega (arith, none)
no_table set (suc (suc (suc (suc (suc (suc (suc zero))))))) none below = omega (arith, none)
no_table set (suc (suc (suc (suc (suc (suc (suc (suc zero)))))))) none below = omega (arith, none)
no_table set (suc (suc (suc (suc (suc (suc (suc (suc (suc zero))))))))) none below = omega (arith, none)
no_table set (suc (suc (suc (suc (suc (suc (suc (suc (suc (suc t)))))))))) none below = absurd (omega (arith, below))

-- a set of some of the ten tables has one
some_table : (set : ℕ) → set < 2 ^ 10 → 0 < set → 0 < table_count set
some_table set small some = elim (cases_lt 0 (table_count set)) [
  | inl has ↦ has
  | inr none ↦
      let empty : set ≡ 0 = same_tables set 0 (λ t. elim (cases_lt t 10) [
        | inl below ↦ no_table set t none below ∙ sym (bit-none t)
        | inr above ↦ bit-beyond set 10 t small above ∙ sym (bit-none t)
      ]) in
      absurd (omega (arith, empty, some))
]

-- a table of a set that falls into two is in one of them
one_side : (q : Query) (set a b : ℕ) → FallsInto q set a b → (t : ℕ) → bit set t ≡ bit a t + bit b t
one_side q set a b falls t =
    let whole : bit set t ≡ max (bit a t) (bit b t) = ap (λ s. bit s t) (sym falls.whole) ∙ bit-or a b t in
    let apart : min (bit a t) (bit b t) ≡ 0 = sym (bit-and a b t) ∙ ap (λ s. bit s t) falls.disjoint ∙ bit-none t in
    omega (arith, whole, apart)

-- so both together have as many tables
both_sides : (q : Query) (set a b : ℕ) → FallsInto q set a b → table_count set ≡ table_count a + table_count b
both_sides q set a b falls =
    let each = one_side q set a b falls in
    omega (arith, each 0, each 1, each 2, each 3, each 4, each 5, each 6, each 7, each 8, each 9)

-- a part of a set of the ten tables is one
part_small : (a b set : ℕ) → bit_or a b ≡ set → set < 2 ^ 10 → (a < 2 ^ 10) × (b < 2 ^ 10)
part_small a b set whole small = (omega (arith, whole, small, le_or_l a b), omega (arith, whole, small, le_or_r a b))

-- each side has fewer
pub fewer_tables : (q : Query) (set a b : ℕ) → IsGroup q (groups.Join set) → FallsInto q set a b
    → (table_count a < table_count set) × (table_count b < table_count set)
fewer_tables q set a b known falls =
    let few : 2 ^ length q.tables ≤ 2 ^ 10 = pow-le-pow_right (omega arith) q.tables_valid.few in
    let small : set < 2 ^ 10 = omega (arith, known.0, few) in
    let parts = part_small a b set falls.whole small in
    let left = some_table a parts.0 falls.some_left in
    let right = some_table b parts.1 falls.some_right in
    let both = both_sides q set a b falls in
    (omega (arith, both, right), omega (arith, both, left))
