-- the columns so far are written, and their histograms' numbers fit
use Rattle.std.proofs.Common.{take}
use Rattle.std.specs.List.{All, flat_map}
use Rattle.json.specs.Tree.{json_tokens}
use Rattle.catalog_text.specs.Text.{column_json}
use Rattle.catalog_text.specs.AddsTokens.{AddsTokens}
use Rattle.catalog_text.specs.Signed.{ColumnFits}
use Rattle.catalog_text.proofs.text.write_each_column.Given as goal

abbrev pub invariant-loop-column : goal.invariant-loop-column
invariant-loop-column l = record {
  added : AddsTokens l.initial.out l.out (flat_map (λ c. json_tokens (column_json c)) (take l.column-index l.columns));
  fit : All ColumnFits (take l.column-index l.columns);
}
