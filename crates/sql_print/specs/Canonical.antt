-- The canonical text of a query.
use Rattle.std.specs.Prelude.{ℕ, Bool, true, false, List, [], ◌∷◌, ◌++◌, Option, Some, None, codes}
use Rattle.std.specs.Fmt.{signed_decimal}
use Rattle.std.specs.List.{flat_map}
use Rattle.sql_reader.specs.declared.syntax.ColRef.{ColRef}
use Rattle.sql_reader.specs.declared.syntax.SelFunc.{SelFunc}
use Rattle.sql_reader.specs.declared.syntax.SelFunc.TheVariants as funcs
use Rattle.sql_reader.specs.declared.syntax.SelExpr.{SelExpr}
use Rattle.sql_reader.specs.declared.syntax.SelExpr.TheVariants as exprs
use Rattle.sql_reader.specs.declared.syntax.SelItem.{SelItem}
use Rattle.sql_reader.specs.declared.syntax.FromItem.{FromItem}
use Rattle.sql_reader.specs.declared.syntax.SelOp.{SelOp}
use Rattle.sql_reader.specs.declared.syntax.SelOp.TheVariants as ops
use Rattle.sql_reader.specs.declared.syntax.SelOperand.{SelOperand}
use Rattle.sql_reader.specs.declared.syntax.SelOperand.TheVariants as operands
use Rattle.sql_reader.specs.declared.syntax.SelPred.{SelPred}
use Rattle.sql_reader.specs.declared.syntax.SelKey.{SelKey}
use Rattle.sql_reader.specs.declared.syntax.Select.{Select}
use Rattle.sql_reader.specs.Pieces.{doubled}

-- the table and a dot, where there is one
abbrev pub table_part : Option (List ℕ) → List ℕ
table_part None = []
table_part (Some table) = table ++ codes "."

-- a column
abbrev pub column_text : ColRef → List ℕ
column_text column = table_part column.table ++ column.name

-- a function and its parenthesis
abbrev pub func_text : SelFunc → List ℕ
func_text funcs.CountAll = codes "COUNT("
func_text funcs.Count = codes "COUNT("
func_text funcs.Sum = codes "SUM("
func_text funcs.Min = codes "MIN("
func_text funcs.Max = codes "MAX("

-- what a function takes
abbrev pub argument_text : Option ColRef → List ℕ
argument_text None = codes "*"
argument_text (Some column) = column_text column

-- an expression
abbrev pub expr_text : SelExpr → List ℕ
expr_text (exprs.Column column) = column_text column
expr_text (exprs.Agg func arg) = func_text func ++ argument_text arg ++ codes ")"

-- an output name or an alias, where there is one
abbrev pub as_text : Option (List ℕ) → List ℕ
as_text None = []
as_text (Some name) = codes " AS " ++ name

-- an element of the select list
abbrev pub item_text : SelItem → List ℕ
item_text item = expr_text item.expr ++ as_text item.name

-- a table
abbrev pub table_text : FromItem → List ℕ
table_text table = table.table ++ as_text table.alias

-- a comparison between spaces
abbrev pub op_text : SelOp → List ℕ
op_text ops.Eq = codes " = "
op_text ops.Ne = codes " <> "
op_text ops.Lt = codes " < "
op_text ops.Le = codes " <= "
op_text ops.Gt = codes " > "
op_text ops.Ge = codes " >= "

-- a text between quotes, each quote inside written twice
abbrev pub quoted_text : List ℕ → List ℕ
quoted_text text = codes "'" ++ doubled text ++ codes "'"

-- the right side of a comparison
abbrev pub operand_text : SelOperand → List ℕ
operand_text (operands.Column column) = column_text column
operand_text (operands.Int number) = signed_decimal number
operand_text (operands.Str text) = quoted_text text

-- a comparison
abbrev pub pred_text : SelPred → List ℕ
pred_text pred = column_text pred.left ++ op_text pred.op ++ operand_text pred.right

-- DESC, where it descends
abbrev pub direction_text : Bool → List ℕ
direction_text true = codes " DESC"
direction_text false = []

-- a key
abbrev pub key_text : SelKey → List ℕ
key_text key = column_text key.col ++ direction_text key.desc

-- the elements' texts, with the separator between
abbrev pub listed : {X : Type 0} → List ℕ → (X → List ℕ) → List X → List ℕ
listed separator text [] = []
listed separator text (x ∷ xs) = text x ++ flat_map (λ y. separator ++ text y) xs

-- a clause, unless its list is empty
abbrev pub clause : {X : Type 0} → List ℕ → List ℕ → (X → List ℕ) → List X → List ℕ
clause words separator text [] = []
clause words separator text (x ∷ xs) = words ++ listed separator text (x ∷ xs)

-- the query
abbrev pub canonical_text : Select → List ℕ
canonical_text select =
    codes "SELECT " ++ listed (codes ", ") item_text select.items
    ++ codes " FROM " ++ listed (codes ", ") table_text select.from
    ++ clause (codes " WHERE ") (codes " AND ") pred_text select.preds
    ++ clause (codes " GROUP BY ") (codes ", ") column_text select.group_by
    ++ clause (codes " ORDER BY ") (codes ", ") key_text select.order_by
