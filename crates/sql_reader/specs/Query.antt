-- The grammar of queries.
use Rattle.std.specs.Prelude.{Bool, true, false, List, [], Some, None}
use Rattle.sql_reader.specs.declared.tokens.Mark.TheVariants as marks
use Rattle.sql_reader.specs.declared.tokens.Function.{Function}
use Rattle.sql_reader.specs.declared.tokens.Function.TheVariants as functions
use Rattle.sql_reader.specs.declared.tokens.Token.{Token}
use Rattle.sql_reader.specs.declared.tokens.Name.{Name}
use Rattle.sql_reader.specs.declared.syntax.ColRef.{ColRef}
use Rattle.sql_reader.specs.declared.syntax.SelFunc.{SelFunc}
use Rattle.sql_reader.specs.declared.syntax.SelFunc.TheVariants as funcs
use Rattle.sql_reader.specs.declared.syntax.SelExpr.{SelExpr}
use Rattle.sql_reader.specs.declared.syntax.SelExpr.TheVariants as exprs
use Rattle.sql_reader.specs.declared.syntax.SelItem.{SelItem}
use Rattle.sql_reader.specs.declared.syntax.FromItem.{FromItem}
use Rattle.sql_reader.specs.declared.syntax.SelOp.{SelOp}
use Rattle.sql_reader.specs.declared.syntax.SelOperand.{SelOperand}
use Rattle.sql_reader.specs.declared.syntax.SelOperand.TheVariants as operands
use Rattle.sql_reader.specs.declared.syntax.SelPred.{SelPred}
use Rattle.sql_reader.specs.declared.syntax.SelKey.{SelKey}
use Rattle.sql_reader.specs.declared.syntax.Select.{Select}
use Rattle.sql_reader.specs.Tokens.{place_of, name_of, called_of, integer_of, quoted_of, op_of}
use Rattle.sql_reader.specs.Grammar.{AtEnd, After, Then, Either, Elements}

-- a column without its table
abbrev pub plain_column : Name → ColRef
plain_column name = record { at = name.at; table = None; name = name.text }

-- a column of a table; it stands where the table does
abbrev pub column_in : Name → Name → ColRef
column_in table name = record { at = table.at; table = Some table.text; name = name.text }

-- col := name | name . name
abbrev pub IsColumn : List Token → ColRef → Type 0
IsColumn = After name_of (λ first. Either
    (After (place_of marks.Dot) (λ _. After name_of (λ name. AtEnd (column_in first name))))
    (AtEnd (plain_column first)))

-- the function as a query has it
abbrev pub func_of : Function → SelFunc
func_of functions.Count = funcs.Count
func_of functions.Sum = funcs.Sum
func_of functions.Min = funcs.Min
func_of functions.Max = funcs.Max

-- the call `COUNT(*)`
abbrev pub count_all : SelExpr
count_all = exprs.Agg funcs.CountAll None

-- a call with a column
abbrev pub aggregate : Function → ColRef → SelExpr
aggregate function column = exprs.Agg (func_of function) (Some column)

-- what the function takes: a column, and COUNT also `*`
abbrev pub IsArgument : Function → List Token → SelExpr → Type 0
IsArgument functions.Count = Either (After (place_of marks.Star) (λ _. AtEnd count_all))
    (Then IsColumn (λ column. AtEnd (aggregate functions.Count column)))
IsArgument functions.Sum = Then IsColumn (λ column. AtEnd (aggregate functions.Sum column))
IsArgument functions.Min = Then IsColumn (λ column. AtEnd (aggregate functions.Min column))
IsArgument functions.Max = Then IsColumn (λ column. AtEnd (aggregate functions.Max column))

-- `( argument )`, behind the function
abbrev pub IsCall : Function → List Token → SelExpr → Type 0
IsCall function = After (place_of marks.Open)
    (λ _. Then (IsArgument function) (λ call. After (place_of marks.Close) (λ _. AtEnd call)))

-- a call of a function, or a column
abbrev pub IsExpr : List Token → SelExpr → Type 0
IsExpr = Either (After called_of IsCall) (Then IsColumn (λ column. AtEnd (exprs.Column column)))

-- an element without an output name
abbrev pub plain_item : SelExpr → SelItem
plain_item expr = record { expr = expr; name_at = 0; name = None }

-- an element with its output name
abbrev pub named_item : SelExpr → Name → SelItem
named_item expr name = record { expr = expr; name_at = name.at; name = Some name.text }

-- [AS name], behind the expression
abbrev pub IsOutput : SelExpr → List Token → SelItem → Type 0
IsOutput expr = Either (After (place_of marks.As) (λ _. After name_of (λ name. AtEnd (named_item expr name))))
    (AtEnd (plain_item expr))

-- item := (col | agg) [AS name]
abbrev pub IsItem : List Token → SelItem → Type 0
IsItem = Then IsExpr IsOutput

-- a table without an alias
abbrev pub plain_table : Name → FromItem
plain_table table = record { at = table.at; table = table.text; alias_at = 0; alias = None }

-- a table with its alias
abbrev pub aliased_table : Name → Name → FromItem
aliased_table table alias = record { at = table.at; table = table.text; alias_at = alias.at; alias = Some alias.text }

-- table := name [[AS] name]
abbrev pub IsTable : List Token → FromItem → Type 0
IsTable = After name_of (λ table. Either
    (After (place_of marks.As) (λ _. After name_of (λ alias. AtEnd (aliased_table table alias))))
    (Either (After name_of (λ alias. AtEnd (aliased_table table alias))) (AtEnd (plain_table table))))

-- col | integer | string
abbrev pub IsOperand : List Token → SelOperand → Type 0
IsOperand = Either (After integer_of (λ number. AtEnd (operands.Int number)))
    (Either (After quoted_of (λ text. AtEnd (operands.Str text)))
    (Then IsColumn (λ column. AtEnd (operands.Column column))))

-- a comparison
abbrev pub predicate : ColRef → SelOp → SelOperand → SelPred
predicate left op right = record { left = left; op = op; right = right }

-- pred := col op (col | integer | string)
abbrev pub IsPred : List Token → SelPred → Type 0
IsPred = Then IsColumn (λ left. After op_of (λ op. Then IsOperand (λ right. AtEnd (predicate left op right))))

-- a key, and whether it descends
abbrev pub key : ColRef → Bool → SelKey
key column descends = record { col = column; desc = descends }

-- [ASC | DESC], behind the column
abbrev pub IsDirection : ColRef → List Token → SelKey → Type 0
IsDirection column = Either (After (place_of marks.Asc) (λ _. AtEnd (key column false)))
    (Either (After (place_of marks.Desc) (λ _. AtEnd (key column true))) (AtEnd (key column false)))

-- key := col [ASC | DESC]
abbrev pub IsKey : List Token → SelKey → Type 0
IsKey = Then IsColumn IsDirection

-- [WHERE pred {AND pred}]
abbrev pub IsWhere : List Token → List SelPred → Type 0
IsWhere = Either (After (place_of marks.Where) (λ _. Elements marks.And IsPred)) (AtEnd [])

-- [GROUP BY col {, col}]
abbrev pub IsGroupBy : List Token → List ColRef → Type 0
IsGroupBy = Either (After (place_of marks.Group)
    (λ _. After (place_of marks.By) (λ _. Elements marks.Comma IsColumn))) (AtEnd [])

-- [ORDER BY key {, key}]
abbrev pub IsOrderBy : List Token → List SelKey → Type 0
IsOrderBy = Either (After (place_of marks.Order) (λ _. After (place_of marks.By) (λ _. Elements marks.Comma IsKey)))
    (AtEnd [])

-- a query from its lists
abbrev pub select_of : List SelItem → List FromItem → List SelPred → List ColRef → List SelKey → Select
select_of items from preds group_by order_by =
    record { items = items; from = from; preds = preds; group_by = group_by; order_by = order_by }

-- [;], behind the query
abbrev pub IsEnd : Select → List Token → Select → Type 0
IsEnd select = Either (After (place_of marks.Semicolon) (λ _. AtEnd select)) (AtEnd select)

-- what follows the select list: FROM table {, table}, and the optional clauses
abbrev pub IsBody : List SelItem → List Token → Select → Type 0
IsBody items = After (place_of marks.From) (λ _. Then (Elements marks.Comma IsTable) (λ from.
    Then IsWhere (λ preds. Then IsGroupBy
    (λ group_by. Then IsOrderBy (λ order_by. IsEnd (select_of items from preds group_by order_by))))))

-- query := SELECT item {, item} FROM table {, table} [WHERE ..] [GROUP BY ..] [ORDER BY ..] [;]
abbrev pub IsQuery : List Token → Select → Type 0
IsQuery = After (place_of marks.Select) (λ _. Then (Elements marks.Comma IsItem) IsBody)
