-- The parts of a query whose names are looked up.
use Rattle.std.specs.Prelude.{Ok}
use Rattle.query_core.specs.declared.catalog.Catalog.{Catalog}
use Rattle.sql_reader.specs.declared.syntax.Select.{Select}
use Rattle.sql_bind.specs.declared.parts.Parts.{Parts}
use Rattle.sql_bind.specs.Steps.{Binding, ◌>>=◌}
use Rattle.sql_bind.specs.Scope.{scope_of}
use Rattle.sql_bind.specs.Columns.{columns_of}
use Rattle.sql_bind.specs.SelectList.{chosen_of}
use Rattle.sql_bind.specs.Conditions.{compared_of}
use Rattle.sql_bind.specs.SortKeys.{keys_of}

-- FROM first; then the select list, WHERE, GROUP BY and ORDER BY
unfoldable pub parts_of : Select → Catalog → Binding Parts
parts_of select catalog = do
  scope ← scope_of catalog select.from
  chosen ← chosen_of scope select.items
  compared ← compared_of scope select.preds
  group ← columns_of scope select.group_by
  keys ← keys_of scope chosen select.order_by
  Ok (record { scope = scope; chosen = chosen; compared = compared; group = group; keys = keys })
