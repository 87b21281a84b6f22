-- The equalities that have a column of a set of tables are those of one of its tables and those of the others.
use Rattle.std.proofs.Common.{◌≡◌, ◌⊎◌, ◌↔◌, inl, inr, ℕ, ◌-◌, ◌^◌, ◌<◌, ◌==◌, Option, None, Some, false, IsTrue, arith}
use Rattle.std.proofs.Common.{sym, ◌∙◌}
use Rattle.std.specs.Prelude.{bit_or, slice_get}
use Rattle.std.specs.Option.{option_map_or}
use Rattle.std.proofs.lemmas.Bool.{cases_eq, cases_lt, eqb-true, eq-eqb}
use Rattle.std.proofs.lemmas.Nat.{pow_pos}
use Rattle.query_core.specs.Sets.{bit, Has}
use Rattle.query_core.specs.declared.query.Query.{Query}
use Rattle.query_core.specs.declared.table.Item.{Item}
use Rattle.query_core.specs.declared.words.KeyParts.TheVariants.{Get, Join}
use Rattle.query_core.proofs.Bits.{bit-below, bit-beyond, bit-one, bit-one_other, bit-or, one-grows, same_tables}
use Rattle.request_props.specs.Ends.{HasColumn}

-- a table of a set of the first tables is one of these
pub table_below : (set table : ℕ) → Has set table → (count : ℕ) → set < 2 ^ count → table < count
table_below set table here count within = elim (cases_lt table count) [
  | inl below ↦ below
  | inr above ↦ absurd (omega (arith, bit-beyond set count table within above, here))
]

-- these are the tables of the set but for one of its own
module _ (set table others : ℕ) (here : Has set table) (rest : (t : ℕ) → bit others t ≡ bit set t - bit (2 ^ table) t) where
  -- they are a lesser set
  pub others_less : others < set
  others_less =
      let none : bit others table ≡ 0 = omega (arith, rest table, bit-one table, bit-below set table) in
      let whole : bit_or others (2 ^ table) ≡ set = same_tables (bit_or others (2 ^ table)) set
      (λ t. elim (cases_eq t table) [
        | inl same ↦ rw same (omega (arith, bit-or others (2 ^ table) table, none, bit-one table, here))
        | inr other ↦ omega (arith, bit-or others (2 ^ table) t, rest t, bit-one_other table t other, bit-below set t)
      ]) in
      omega (arith, one-grows others table none, whole, pow_pos table)

  -- a table of the set is that one, or one of the others
  table_either : (t : ℕ) → Has set t ↔ ((t ≡ table) ⊎ Has others t)
  table_either t = elim (cases_eq t table) [
    | inl same ↦ (λ has. inl same, λ either. rw same here)
    | inr other ↦
        let plain : bit others t ≡ bit set t = omega (arith, rest t, bit-one_other table t other) in
        (λ has. inr (plain ∙ has), λ either. elim either [ inl same ↦ absurd (other same) | inr has ↦ sym plain ∙ has ])
  ]

  column_at : (item : Option Item) → IsTrue (option_map_or (λ item. bit set item.table == 1) item false)
      ↔ (IsTrue (option_map_or (λ item. item.table == table) item false)
      ⊎ IsTrue (option_map_or (λ item. bit others item.table == 1) item false))
  column_at None = (λ never. inl never, λ either. elim either [ inl never ↦ never | inr never ↦ never ])
  column_at (Some item) = (
    λ has. elim ((table_either item.table).0 (eqb-true (bit set item.table) 1 has)) [
      | inl same ↦ inl (eq-eqb item.table table same)
      | inr among ↦ inr (eq-eqb (bit others item.table) 1 among)
    ],
    λ either. eq-eqb (bit set item.table) 1 ((table_either item.table).1 (elim either [
      | inl same ↦ inl (eqb-true item.table table same)
      | inr among ↦ inr (eqb-true (bit others item.table) 1 among)
    ])),
  )

  -- a column of the set is one of that table, or one of the others
  pub column_either : (q : Query) (column : ℕ) → HasColumn q (Join set) column
      ↔ (HasColumn q (Get table) column ⊎ HasColumn q (Join others) column)
  column_either q column = column_at (slice_get q.items column)
