-- The predicates of WHERE over columns.
use Rattle.std.specs.Prelude.{List, [], Ok}
use Rattle.query_core.specs.declared.predicate.CmpOp.{CmpOp}
use Rattle.query_core.specs.declared.predicate.CmpOp.TheVariants as ops
use Rattle.sql_reader.specs.declared.syntax.SelOp.{SelOp}
use Rattle.sql_reader.specs.declared.syntax.SelOp.TheVariants as written
use Rattle.sql_reader.specs.declared.syntax.SelOperand.{SelOperand}
use Rattle.sql_reader.specs.declared.syntax.SelOperand.TheVariants as operands
use Rattle.sql_reader.specs.declared.syntax.SelPred.{SelPred}
use Rattle.sql_bind.specs.declared.conditions.Side.{Side}
use Rattle.sql_bind.specs.declared.conditions.Side.TheVariants as sides
use Rattle.sql_bind.specs.declared.conditions.Compared.{Compared}
use Rattle.sql_bind.specs.Steps.{Binding, ◌>>=◌, seen, each}
use Rattle.sql_bind.specs.Scope.{FromTable}
use Rattle.sql_bind.specs.Columns.{column_of}

-- the comparison that is written
abbrev pub op_of : SelOp → CmpOp
op_of written.Eq = ops.Eq
op_of written.Ne = ops.Ne
op_of written.Lt = ops.Lt
op_of written.Le = ops.Le
op_of written.Gt = ops.Gt
op_of written.Ge = ops.Ge

-- a column, an integer or a text
abbrev pub side_in : List FromTable → SelOperand → Binding Side
side_in scope (operands.Column reference) = seen (λ c. sides.Column c) (column_of scope reference)
side_in scope (operands.Int value) = Ok (sides.Int value)
side_in scope (operands.Str text) = Ok (sides.Str text)

-- a predicate: its left side, and then its right side
unfoldable pub compared_in : List FromTable → SelPred → Binding Compared
compared_in scope pred = do
  left ← column_of scope pred.left
  right ← side_in scope pred.right
  Ok (record { left = left; op = op_of pred.op; right = right })

-- the predicates in text order
abbrev pub compared_of : List FromTable → List SelPred → Binding (List Compared)
compared_of scope preds = each (λ before pred. compared_in scope pred) [] preds
