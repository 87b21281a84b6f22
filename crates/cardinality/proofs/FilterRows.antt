-- The rows of one table with its own predicates.
use Rattle.std.proofs.Common.{◌≡◌, ℕ, zero, suc, ◌*◌, ◌<◌, ◌≤◌, ◌^◌, Bool, true, false, ◌&&◌, ◌||◌, List, [], ◌∷◌}
use Rattle.std.proofs.Common.{length, refl, ap, ◌∙◌, arith, inl, inr, IsTrue}
use Rattle.std.specs.Prelude.{nat_le, ◌==◌, slice_get, if◌then◌else◌}
use Rattle.std.specs.List.{fold, list_all}
use Rattle.std.specs.Option.{option_map_or}
use Rattle.std.proofs.lemmas.Bool.{cases_eq, eq-eqb, ne_eqb, le-leb, leb-true, and_parts}
use Rattle.std.proofs.lemmas.Nat.Bits.{bit_at-pow_same, bit_at-pow_other}
use Rattle.query_core.specs.Sets.{bit}
use Rattle.query_core.specs.Items.{is_column_of}
use Rattle.query_core.specs.Keys.{is_own, lies_in}
use Rattle.query_core.specs.declared.table.Item.{Item}
use Rattle.query_core.specs.declared.table.QueryTable.{QueryTable}
use Rattle.query_core.specs.declared.predicate.Pred.{Pred}
use Rattle.query_core.specs.declared.predicate.Operand as operands
use Rattle.query_core.specs.declared.predicate.Operand.{Operand}
use Rattle.query_core.specs.declared.query.Query.{Query}
use Rattle.cardinality.specs.Factor.{factor_of}
use Rattle.cardinality.specs.Rows.{capped, table_rows, is_column_so_far, is_right_so_far, is_right_of, applies}
use Rattle.cardinality.specs.Rows.{rows_after, rows_by, rows_with, rows_upto, joined_rows, own_rows}

-- the set of one table has it
one_has : (t : ℕ) → bit (2 ^ t) t ≡ 1
unfolding bit
one_has t = bit_at-pow_same t

-- and has no other table
one_only : (t u : ℕ) → (u ≡ t → ⊥) → bit (2 ^ t) u ≡ 0
unfolding bit
one_only t u other = bit_at-pow_other t u other

-- in the set of one table, a table up to that one is that one
so_far_same : (t u : ℕ) → ((bit (2 ^ t) u == 1) && nat_le u t) ≡ (u == t)
so_far_same t u = elim (cases_eq u t) [
  | inl same ↦ rw (same, one_has t, le-leb t t (omega arith), eq-eqb t t refl) refl
  | inr other ↦ rw (one_only t u other, ne_eqb u t other) refl
]

column_so_far : (items : List Item) (t number : ℕ)
    → is_column_so_far items (2 ^ t) t number ≡ is_column_of items t number
column_so_far [] t number = refl
column_so_far (item ∷ items) t zero = so_far_same t item.table
column_so_far (item ∷ items) t (suc number) = column_so_far items t number

right_so_far : (items : List Item) (t : ℕ) (right : Operand)
    → is_right_so_far items (2 ^ t) t right ≡ lies_in items t right
right_so_far items t (operands.TheVariants.Item number) = column_so_far items t number
right_so_far items t (operands.TheVariants.Int value) = refl
right_so_far items t (operands.TheVariants.Str text) = refl

-- a predicate whose left column lies in the table has a column of it
over_left : (left right rest : Bool) → ((left || right) && left && rest) ≡ (left && rest)
over_left true right rest = refl
over_left false true rest = refl
over_left false false rest = refl

-- where a table is alone, the predicates that apply are its own
applies_own : (items : List Item) (t : ℕ) (pred : Pred) → applies items (2 ^ t) t pred ≡ is_own items t pred
applies_own items t pred =
    rw (column_so_far items t pred.left, right_so_far items t pred.right)
    (over_left (is_column_of items t pred.left) (is_right_of items t pred.right) (lies_in items t pred.right))

folds_same : (items : List Item) (t rows : ℕ) (preds : List Pred)
    → fold (rows_after items (2 ^ t) t) rows preds ≡ fold
    (λ rows pred. if is_own items t pred then rows_by rows (factor_of items pred) else rows) rows preds
folds_same items t rows [] = refl
folds_same items t rows (pred ∷ preds) =
    rw (applies_own items t pred) (folds_same items t
    (if is_own items t pred then rows_by rows (factor_of items pred) else rows) preds)

-- before its turn the table hasn't joined
rows_before : (q : Query) (t k : ℕ) → k ≤ t → rows_upto q (2 ^ t) k ≡ 1
rows_before q t zero below = refl
rows_before q t (suc k) below = rw (one_only t k (λ same. omega (arith, same, below)))
    (rows_before q t k (omega (arith, below)))

-- after it no other joins
rows_since : (q : Query) (t k : ℕ) → t < k → rows_upto q (2 ^ t) k ≡ rows_with q (2 ^ t) t 1
rows_since q t zero above = absurd (omega (arith, above))
rows_since q t (suc k) above = elim (cases_eq k t) [
  | inl same ↦ rw (same, one_has t, rows_before q t t (omega arith)) refl
  | inr other ↦ rw (one_only t k other) (rows_since q t k (omega (arith, above, other)))
]

-- a table has at most 10^12 rows
rows_fit : (tables : List QueryTable) (t : ℕ) → IsTrue (list_all (λ table. nat_le table.rows 1000000000000) tables)
    → option_map_or (λ table. table.rows) (slice_get tables t) 0 ≤ 1000000000000
rows_fit [] t all = omega arith
rows_fit (table ∷ tables) zero all = leb-true _ _ (and_parts _ _ all).0
rows_fit (table ∷ tables) (suc t) all = rows_fit tables t (and_parts _ _ all).1

-- the join of one table is what its own predicates leave of it
pub one_table : (q : Query) (t : ℕ) → t < length q.tables → joined_rows q (2 ^ t) ≡ own_rows q t
one_table q t there =
    let whole : capped (1 * table_rows q t) ≡ table_rows q t =
    omega (arith, rows_fit q.tables t q.tables_valid.rows_fit) in
    rows_since q t (length q.tables) there
    ∙ folds_same q.items t (capped (1 * table_rows q t)) q.preds
    ∙ ap (λ rows. fold (λ rows pred. if is_own q.items t pred then rows_by rows (factor_of q.items pred) else rows)
    rows q.preds) whole
