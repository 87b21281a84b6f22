-- A query without its offsets.
use Rattle.std.specs.Prelude.{map}
use Rattle.std.specs.Option.{option_map}
use Rattle.sql_reader.specs.declared.syntax.ColRef.{ColRef}
use Rattle.sql_reader.specs.declared.syntax.SelExpr.{SelExpr}
use Rattle.sql_reader.specs.declared.syntax.SelExpr.TheVariants as exprs
use Rattle.sql_reader.specs.declared.syntax.SelItem.{SelItem}
use Rattle.sql_reader.specs.declared.syntax.FromItem.{FromItem}
use Rattle.sql_reader.specs.declared.syntax.SelOperand.{SelOperand}
use Rattle.sql_reader.specs.declared.syntax.SelOperand.TheVariants as operands
use Rattle.sql_reader.specs.declared.syntax.SelPred.{SelPred}
use Rattle.sql_reader.specs.declared.syntax.SelKey.{SelKey}
use Rattle.sql_reader.specs.declared.syntax.Select.{Select}

-- a column at the offset 0
abbrev pub unplaced_column : ColRef → ColRef
unplaced_column column = record { at = 0; table = column.table; name = column.name }

-- an expression without offsets
abbrev pub unplaced_expr : SelExpr → SelExpr
unplaced_expr (exprs.Column column) = exprs.Column (unplaced_column column)
unplaced_expr (exprs.Agg func arg) = exprs.Agg func (option_map unplaced_column arg)

-- an element without offsets
abbrev pub unplaced_item : SelItem → SelItem
unplaced_item item = record { expr = unplaced_expr item.expr; name_at = 0; name = item.name }

-- a table without offsets
abbrev pub unplaced_table : FromItem → FromItem
unplaced_table table = record { at = 0; table = table.table; alias_at = 0; alias = table.alias }

-- an operand without offsets
abbrev pub unplaced_operand : SelOperand → SelOperand
unplaced_operand (operands.Column column) = operands.Column (unplaced_column column)
unplaced_operand (operands.Int number) = operands.Int number
unplaced_operand (operands.Str text) = operands.Str text

-- a comparison without offsets
abbrev pub unplaced_pred : SelPred → SelPred
unplaced_pred pred = record { left = unplaced_column pred.left; op = pred.op; right = unplaced_operand pred.right }

-- a key without offsets
abbrev pub unplaced_key : SelKey → SelKey
unplaced_key key = record { col = unplaced_column key.col; desc = key.desc }

-- the query with each offset 0
abbrev pub unplaced : Select → Select
unplaced select = record {
  items = map unplaced_item select.items;
  from = map unplaced_table select.from;
  preds = map unplaced_pred select.preds;
  group_by = map unplaced_column select.group_by;
  order_by = map unplaced_key select.order_by;
}
