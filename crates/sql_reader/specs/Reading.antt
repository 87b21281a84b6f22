-- What each production reads.
use Rattle.std.specs.Prelude.{Bool, true, false, ◌||◌, List, [], ◌∷◌, Result, Ok, Err, is_some}
use Rattle.sql_reader.specs.declared.tokens.Mark.TheVariants as marks
use Rattle.sql_reader.specs.declared.tokens.Function.{Function}
use Rattle.sql_reader.specs.declared.tokens.Function.TheVariants as functions
use Rattle.sql_reader.specs.declared.tokens.Token.{Token}
use Rattle.sql_reader.specs.declared.faults.Limit.TheVariants as limits
use Rattle.sql_reader.specs.declared.syntax.ColRef.{ColRef}
use Rattle.sql_reader.specs.declared.syntax.SelExpr.{SelExpr}
use Rattle.sql_reader.specs.declared.syntax.SelExpr.TheVariants as exprs
use Rattle.sql_reader.specs.declared.syntax.SelItem.{SelItem}
use Rattle.sql_reader.specs.declared.syntax.FromItem.{FromItem}
use Rattle.sql_reader.specs.declared.syntax.SelOperand.{SelOperand}
use Rattle.sql_reader.specs.declared.syntax.SelOperand.TheVariants as operands
use Rattle.sql_reader.specs.declared.syntax.SelPred.{SelPred}
use Rattle.sql_reader.specs.declared.syntax.SelKey.{SelKey}
use Rattle.sql_reader.specs.declared.syntax.Select.{Select}
use Rattle.sql_reader.specs.Tokens.{place_of, name_of, called_of, integer_of, quoted_of, op_of}
use Rattle.sql_reader.specs.Query.{plain_column, column_in, count_all, aggregate, plain_item, named_item, plain_table}
use Rattle.sql_reader.specs.Query.{aliased_table, predicate, key, select_of}
use Rattle.orca_base.specs.Checked.{◌>>=◌}
use Rattle.sql_reader.specs.Steps.{Step, Stopped, unexpected, done_at, after_at, then_at, branch_at, elements_at}

-- a column
unfoldable pub column_at : List Token → Step ColRef
column_at = after_at name_of (λ first. branch_at (place_of marks.Dot)
    (λ _. after_at name_of (λ name. done_at (column_in first name))) (done_at (plain_column first)))

-- whether the function takes `*` too
abbrev pub counts : Function → Bool
counts functions.Count = true
counts functions.Sum = false
counts functions.Min = false
counts functions.Max = false

-- what a function takes
unfoldable pub argument_at : Function → List Token → Step SelExpr
argument_at functions.Count = branch_at (place_of marks.Star) (λ _. done_at count_all)
    (then_at column_at (λ column. done_at (aggregate functions.Count column)))
argument_at functions.Sum = then_at column_at (λ column. done_at (aggregate functions.Sum column))
argument_at functions.Min = then_at column_at (λ column. done_at (aggregate functions.Min column))
argument_at functions.Max = then_at column_at (λ column. done_at (aggregate functions.Max column))

-- a call behind its function
unfoldable pub call_at : Function → List Token → Step SelExpr
call_at function = after_at (place_of marks.Open)
    (λ _. then_at (argument_at function) (λ call. after_at (place_of marks.Close) (λ _. done_at call)))

-- a call or a column
unfoldable pub expr_at : List Token → Step SelExpr
expr_at = branch_at called_of call_at (then_at column_at (λ column. done_at (exprs.Column column)))

-- an output name behind the expression
unfoldable pub output_at : SelExpr → List Token → Step SelItem
output_at expr = branch_at (place_of marks.As) (λ _. after_at name_of (λ name. done_at (named_item expr name)))
    (done_at (plain_item expr))

-- an element of the select list
unfoldable pub item_at : List Token → Step SelItem
item_at = then_at expr_at output_at

-- a table of FROM
unfoldable pub table_at : List Token → Step FromItem
table_at = after_at name_of (λ table. branch_at (place_of marks.As)
    (λ _. after_at name_of (λ alias. done_at (aliased_table table alias)))
    (branch_at name_of (λ alias. done_at (aliased_table table alias)) (done_at (plain_table table))))

-- the right side of a comparison
unfoldable pub operand_at : List Token → Step SelOperand
operand_at = branch_at integer_of (λ number. done_at (operands.Int number))
    (branch_at quoted_of (λ text. done_at (operands.Str text))
    (then_at column_at (λ column. done_at (operands.Column column))))

-- a comparison
unfoldable pub pred_at : List Token → Step SelPred
pred_at = then_at column_at (λ left. after_at op_of
    (λ op. then_at operand_at (λ right. done_at (predicate left op right))))

-- a direction behind the column
unfoldable pub direction_at : ColRef → List Token → Step SelKey
direction_at column = branch_at (place_of marks.Asc) (λ _. done_at (key column false))
    (branch_at (place_of marks.Desc) (λ _. done_at (key column true)) (done_at (key column false)))

-- a key of ORDER BY
unfoldable pub key_at : List Token → Step SelKey
key_at = then_at column_at direction_at

-- the token is a name
abbrev pub starts_name : Token → Bool
starts_name token = is_some (name_of token)

-- the token is a name or a function
abbrev pub starts_item : Token → Bool
starts_item token = is_some (called_of token) || is_some (name_of token)

-- the select list
unfoldable pub items_at : List Token → Step (List SelItem)
items_at = elements_at marks.Comma starts_item item_at limits.Items 60

-- the tables
unfoldable pub tables_at : List Token → Step (List FromItem)
tables_at = elements_at marks.Comma starts_name table_at limits.Tables 10

-- the comparisons
unfoldable pub preds_at : List Token → Step (List SelPred)
preds_at = elements_at marks.And starts_name pred_at limits.Predicates 40

-- the columns of GROUP BY
unfoldable pub group_columns_at : List Token → Step (List ColRef)
group_columns_at = elements_at marks.Comma starts_name column_at limits.GroupBy 8

-- the keys of ORDER BY
unfoldable pub keys_at : List Token → Step (List SelKey)
keys_at = elements_at marks.Comma starts_name key_at limits.OrderBy 8

-- WHERE, where it is there
unfoldable pub where_at : List Token → Step (List SelPred)
where_at = branch_at (place_of marks.Where) (λ _. preds_at) (done_at [])

-- GROUP BY, where it is there
unfoldable pub group_by_at : List Token → Step (List ColRef)
group_by_at = branch_at (place_of marks.Group) (λ _. after_at (place_of marks.By) (λ _. group_columns_at)) (done_at [])

-- ORDER BY, where it is there
unfoldable pub order_by_at : List Token → Step (List SelKey)
order_by_at = branch_at (place_of marks.Order) (λ _. after_at (place_of marks.By) (λ _. keys_at)) (done_at [])

-- the semicolon, where it is there
unfoldable pub end_at : Select → List Token → Step Select
end_at select = branch_at (place_of marks.Semicolon) (λ _. done_at select) (done_at select)

-- what follows the select list
unfoldable pub body_at : List SelItem → List Token → Step Select
body_at items = after_at (place_of marks.From) (λ _. then_at tables_at (λ from.
    then_at where_at (λ preds. then_at group_by_at
    (λ group_by. then_at order_by_at (λ order_by. end_at (select_of items from preds group_by order_by))))))

-- a query
unfoldable pub query_at : List Token → Step Select
query_at = after_at (place_of marks.Select) (λ _. then_at items_at body_at)

-- nothing may be left
abbrev pub all_read : {X : Type 0} → X × List Token → Result X Stopped
all_read (x, []) = Ok x
all_read (x, token ∷ tokens) = Err (unexpected (token ∷ tokens))

-- a query, and nothing behind it
unfoldable pub parse_at : List Token → Result Select Stopped
parse_at tokens = query_at tokens >>= all_read
