-- The lists by whose hash the plans of a query may place rows, and the orders that they may ask for, as often
-- as the query has them.
use Rattle.std.specs.Prelude.{ℕ, Bool, ◌+◌, ◌*◌, List, [], ◌∷◌, ◌++◌, map, flat_map, filter_map, is_some, if◌then◌else◌}
use Rattle.query_core.specs.declared.query.Query.{Query}
use Rattle.query_core.specs.declared.table.Item.{Item}
use Rattle.query_core.specs.declared.output.OrderKey.{OrderKey}
use Rattle.query_core.specs.declared.predicate.Pred.{Pred}
use Rattle.query_core.specs.declared.predicate.Operand as operands
use Rattle.query_core.specs.declared.predicate.Operand.{Operand}
use Rattle.query_core.specs.declared.predicate.CmpOp as comparisons
use Rattle.query_core.specs.declared.predicate.CmpOp.{CmpOp}
use Rattle.query_core.specs.Links.{table_of, link_between}

-- an order's element as a number: twice the item, and one more where it descends
abbrev pub element_of : OrderKey → ℕ
element_of key = 2 * key.item + (if key.desc then 1 else 0)

-- columns to sort by, as an order
abbrev pub elements_of : List OrderKey → List ℕ
elements_of keys = map element_of keys

-- columns, each ascending, as an order
abbrev pub ascending : List ℕ → List ℕ
ascending columns = map (λ column. 2 * column) columns

-- the order of ORDER BY
abbrev pub wanted_order : Query → List ℕ
wanted_order q = elements_of q.order

-- the GROUP BY list, each column ascending
abbrev pub grouped_order : Query → List ℕ
grouped_order q = ascending q.group_by

-- the items are columns of different tables
abbrev pub is_across : List Item → ℕ → ℕ → Bool
is_across items left right = is_some (link_between (table_of items left) (table_of items right))

-- both items, where they are columns of different tables
abbrev pub sides_between : List Item → ℕ → ℕ → List ℕ
sides_between items left right = if is_across items left right then left ∷ right ∷ [] else []

-- both sides of an equality, where they are columns of different tables
abbrev pub sides_across : List Item → ℕ → Operand → List ℕ
sides_across items left (operands.TheVariants.Item right) = sides_between items left right
sides_across items left (operands.TheVariants.Int value) = []
sides_across items left (operands.TheVariants.Str text) = []

-- of the comparisons only an equality has sides
abbrev pub sides_by : List Item → ℕ → CmpOp → Operand → List ℕ
sides_by items left comparisons.TheVariants.Eq right = sides_across items left right
sides_by items left comparisons.TheVariants.Ne right = []
sides_by items left comparisons.TheVariants.Lt right = []
sides_by items left comparisons.TheVariants.Le right = []
sides_by items left comparisons.TheVariants.Gt right = []
sides_by items left comparisons.TheVariants.Ge right = []

-- the sides of a predicate that is an equality between columns of different tables
abbrev pub sides_of : List Item → Pred → List ℕ
sides_of items pred = sides_by items pred.left pred.op pred.right

-- the sides of all such predicates
abbrev pub joined_columns : Query → List ℕ
joined_columns q = flat_map (sides_of q.items) q.preds

-- each number as a list of one
abbrev pub one_each : List ℕ → List (List ℕ)
one_each numbers = map (λ number. number ∷ []) numbers

-- the one list, unless it is empty
abbrev pub unless_empty : List ℕ → List (List ℕ)
unless_empty [] = []
unless_empty (first ∷ others) = (first ∷ others) ∷ []

-- the distribution list of each hashed table
abbrev pub table_lists : Query → List (List ℕ)
table_lists q = filter_map (λ table. table.hashed) q.tables

-- the distribution list of each hashed table, each side of each equality between columns of different tables, and the
-- GROUP BY list
abbrev pub found_lists : Query → List (List ℕ)
found_lists q = table_lists q ++ one_each (joined_columns q) ++ unless_empty q.group_by

-- the ORDER BY list, each side of these equalities ascending, and the GROUP BY list ascending; the empty order is none
-- of them
abbrev pub found_orders : Query → List (List ℕ)
found_orders q = unless_empty (wanted_order q) ++ one_each (ascending (joined_columns q)) ++ unless_empty
    (grouped_order q)
