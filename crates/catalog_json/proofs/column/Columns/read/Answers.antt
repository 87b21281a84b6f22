use Rattle.std.proofs.Common.{◌≡◌, List, false, Ok, string_bytes, sym, ap, rules, ◌∙◌}
use Rattle.std.specs.List.{list_any}
use Rattle.std.specs.Str.{bytes_eq}
use Rattle.query_core.specs.declared.catalog.ColumnInfo.{ColumnInfo}
use Rattle.serde_json.specs.View.{view}
use Rattle.catalog_json.specs.declared.column.ColumnValues.{ColumnValues}
use Rattle.catalog_json.specs.Columns.{column_of, names_of}
use Rattle.catalog_json.specs.Walk.{column_at, new_name_at}
use Rattle.catalog_json.proofs.Keys.{goes_last}
use Rattle.catalog_json.proofs.column.Columns.read.Goals as goal

-- the column that was read goes last
pub returns : goal.returns
unfolding column_at new_name_at
returns c =
    let name = c.in_ok-name.name in
    let old = c.args.self.now in
    let values : ColumnValues = record { ndv = c.in_ok-ndv.ndv; histogram = c.in_ok-histogram.histogram } in
    let fresh : list_any (bytes_eq (string_bytes name)) (names_of old) ≡ false =
    rw (← c.as_str.ensures.value) (sym c.has.ensures ∙ c.if-has.false) in
    let made : column_at c.args.version c.args.t old (view c.args.value) ≡ Ok (column_of (name, values)) =
    search rules in
    rw (made, c.in_ok-insert.ensures.entries, ← c.self.view_is)
    (ap (λ (columns : List ColumnInfo). Ok columns)
    (sym (goes_last c.self.inside.values.entries name values (rw (← c.self.view_is) at fresh))))
