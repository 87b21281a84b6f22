-- The keys of ORDER BY: columns, and elements of the select list by their output names.
use Rattle.std.specs.Prelude.{ℕ, List, [], Option, None, Some, Ok, find}
use Rattle.sql_reader.specs.declared.syntax.ColRef.{ColRef}
use Rattle.sql_reader.specs.declared.syntax.SelKey.{SelKey}
use Rattle.sql_bind.specs.declared.select_list.What.{What}
use Rattle.sql_bind.specs.declared.select_list.What.TheVariants as whats
use Rattle.sql_bind.specs.declared.select_list.Chosen.{Chosen}
use Rattle.sql_bind.specs.declared.sort_keys.Target.{Target}
use Rattle.sql_bind.specs.declared.sort_keys.Target.TheVariants as targets
use Rattle.sql_bind.specs.declared.sort_keys.SortKey.{SortKey}
use Rattle.sql_bind.specs.Steps.{Binding, seen, each}
use Rattle.sql_bind.specs.Scope.{FromTable}
use Rattle.sql_bind.specs.Columns.{column_of}
use Rattle.sql_bind.specs.SelectList.{is_called}

-- what an element of the select list stands for
abbrev pub target_of : What → Target
target_of (whats.Column at c) = targets.Column c
target_of (whats.Aggregate number func arg) = targets.Aggregate number

-- the first element of the select list with this output name
unfoldable pub first_called : List ℕ → List Chosen → Option Chosen
first_called name chosen = find (is_called name) chosen

abbrev pub named_target : Option Chosen → Option Target
named_target None = None
named_target (Some chosen) = Some (target_of chosen.what)

-- the output that a name without a table before it means
abbrev pub meant_output : List Chosen → Option (List ℕ) → List ℕ → Option Target
meant_output chosen (Some table) name = None
meant_output chosen None name = named_target (first_called name chosen)

-- that output, or else a column
abbrev pub target_in : List FromTable → Option Target → ColRef → Binding Target
target_in scope (Some target) reference = Ok target
target_in scope None reference = seen (λ c. targets.Column c) (column_of scope reference)

-- a key
abbrev pub key_in : List FromTable → List Chosen → SelKey → Binding SortKey
key_in scope chosen key =
    seen (λ target. record { at = key.col.at; target = target; desc = key.desc })
    (target_in scope (meant_output chosen key.col.table key.col.name) key.col)

-- the keys in text order
abbrev pub keys_of : List FromTable → List Chosen → List SelKey → Binding (List SortKey)
keys_of scope chosen order_by = each (λ before key. key_in scope chosen key) [] order_by
