-- The select list: plain columns and aggregates, with the names of the output.
use Rattle.std.specs.Prelude.{ℕ, Bool, true, false, List, [], Option, None, Some, Ok, Err, count_by, filter_map}
use Rattle.std.specs.Prelude.{if◌then◌else◌}
use Rattle.std.specs.List.{list_any}
use Rattle.std.specs.Str.{bytes_eq}
use Rattle.query_core.specs.declared.aggregate.AggFunc.{AggFunc}
use Rattle.query_core.specs.declared.aggregate.AggFunc.TheVariants as functions
use Rattle.sql_reader.specs.declared.syntax.ColRef.{ColRef}
use Rattle.sql_reader.specs.declared.syntax.SelFunc.{SelFunc}
use Rattle.sql_reader.specs.declared.syntax.SelFunc.TheVariants as written
use Rattle.sql_reader.specs.declared.syntax.SelExpr.{SelExpr}
use Rattle.sql_reader.specs.declared.syntax.SelExpr.TheVariants as exprs
use Rattle.sql_reader.specs.declared.syntax.SelItem.{SelItem}
use Rattle.sql_bind.specs.declared.fault.BindFault.TheVariants.{TwiceAlias}
use Rattle.sql_bind.specs.declared.columns.Column.{Column}
use Rattle.sql_bind.specs.declared.select_list.What.{What}
use Rattle.sql_bind.specs.declared.select_list.What.TheVariants as whats
use Rattle.sql_bind.specs.declared.select_list.Chosen.{Chosen}
use Rattle.sql_bind.specs.Steps.{Binding, ◌>>=◌, seen, each}
use Rattle.sql_bind.specs.Scope.{FromTable}
use Rattle.sql_bind.specs.Columns.{column_of}

-- the function that is written
abbrev pub function_of : SelFunc → AggFunc
function_of written.CountAll = functions.CountAll
function_of written.Count = functions.Count
function_of written.Sum = functions.Sum
function_of written.Min = functions.Min
function_of written.Max = functions.Max

abbrev pub is_aggregate : What → Bool
is_aggregate (whats.Column at c) = false
is_aggregate (whats.Aggregate number func arg) = true

-- how many of these are aggregates
abbrev pub aggregates : List Chosen → ℕ
aggregates chosen = count_by (λ c. is_aggregate c.what) chosen

abbrev pub call : ℕ → AggFunc → Option Column → What
call number func arg = whats.Aggregate number func arg

-- an aggregate over a column, or over all rows
abbrev pub call_in : List FromTable → ℕ → AggFunc → Option ColRef → Binding What
call_in scope number func None = Ok (call number func None)
call_in scope number func (Some reference) = seen (λ c. call number func (Some c)) (column_of scope reference)

-- a column, or the aggregate of this number
abbrev pub what_in : List FromTable → ℕ → SelExpr → Binding What
what_in scope number (exprs.Column reference) = seen (λ c. whats.Column reference.at c) (column_of scope reference)
what_in scope number (exprs.Agg func arg) = call_in scope number (function_of func) arg

-- the element has this output name
abbrev pub has_name : List ℕ → Option (List ℕ) → Bool
has_name name None = false
has_name name (Some other) = bytes_eq other name

abbrev pub is_called : List ℕ → Chosen → Bool
is_called name chosen = has_name name chosen.name

-- the output names
abbrev pub output_names : List Chosen → List (List ℕ)
output_names chosen = filter_map (λ c. c.name) chosen

-- this is one of them
unfoldable pub any_called : List ℕ → List Chosen → Bool
any_called name chosen = list_any (bytes_eq name) (output_names chosen)

-- the element under its output name, which no element before it has
abbrev pub named_as : List Chosen → ℕ → Option (List ℕ) → What → Binding Chosen
named_as before at None what = Ok (record { what = what; name = None })
named_as before at (Some name) what = if any_called name before then Err (TwiceAlias at) else Ok
    (record { what = what; name = Some name })

-- an element of the select list, after those before it
unfoldable pub chosen_in : List FromTable → List Chosen → SelItem → Binding Chosen
chosen_in scope before item = do
  what ← what_in scope (aggregates before) item.expr
  named_as before item.name_at item.name what

-- the select list in text order
abbrev pub chosen_of : List FromTable → List SelItem → Binding (List Chosen)
chosen_of scope items = each (chosen_in scope) [] items
