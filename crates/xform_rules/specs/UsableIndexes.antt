-- The usable indexes of a table: those by which its own predicates find rows.
use Rattle.std.specs.Prelude.{ℕ, Bool, true, false, List, Some, ◌≡◌, ◌==◌, ◌&&◌, slice_get, take, IsTrue}
use Rattle.std.specs.List.{list_any, count_by}
use Rattle.std.specs.Option.{option_map_or}
use Rattle.query_core.specs.Keys.{is_own}
use Rattle.query_core.specs.declared.predicate.CmpOp.{CmpOp}
use Rattle.query_core.specs.declared.predicate.CmpOp.TheVariants as comparisons
use Rattle.query_core.specs.declared.predicate.Operand.{Operand}
use Rattle.query_core.specs.declared.predicate.Operand.TheVariants as operands
use Rattle.query_core.specs.declared.predicate.Pred.{Pred}
use Rattle.query_core.specs.declared.table.QueryTable.{QueryTable}
use Rattle.query_core.specs.declared.query.Query.{Query}

-- an index finds rows by each comparison but <>
abbrev pub is_sought : CmpOp → Bool
is_sought comparisons.Eq = true
is_sought comparisons.Ne = false
is_sought comparisons.Lt = true
is_sought comparisons.Le = true
is_sought comparisons.Gt = true
is_sought comparisons.Ge = true

-- the right side is an integer or a string
abbrev pub is_literal : Operand → Bool
is_literal (operands.Item item) = false
is_literal (operands.Int value) = true
is_literal (operands.Str text) = true

-- the predicate is one of the table's own, with the column on its left, a comparison by which an index finds rows, and
-- a literal
abbrev pub seeks : Query → ℕ → ℕ → Pred → Bool
seeks q t column pred = is_own q.items t pred && (pred.left == column) && is_sought pred.op && is_literal pred.right

-- there is such a predicate
abbrev pub is_sought_column : Query → ℕ → ℕ → Bool
is_sought_column q t column = list_any (seeks q t column) q.preds

-- there is one for the index's first column
abbrev pub is_usable : Query → ℕ → List ℕ → Bool
is_usable q t columns = option_map_or (is_sought_column q t) (slice_get columns 0) false

-- the index of this number is usable, and so many usable ones come before it
pub record IsNthUsable (q : Query) (t : ℕ) (indexes : List (List ℕ)) (n index : ℕ) : Type 0 where
  pub usable : IsTrue (option_map_or (is_usable q t) (slice_get indexes index) false)
  pub before : count_by (is_usable q t) (take index indexes) ≡ n

-- of the table's usable indexes the n-th has this number
abbrev pub HasNthUsable : Query → ℕ → ℕ → ℕ → Type 0
HasNthUsable q t n index = (table : QueryTable) × (slice_get q.tables t ≡ Some table)
    × IsNthUsable q t table.indexes n index
