-- the tables so far are written, and their histograms' numbers fit
use Rattle.std.proofs.Common.{take}
use Rattle.std.specs.List.{All, flat_map}
use Rattle.json.specs.Tree.{json_tokens}
use Rattle.catalog_text.specs.Text.{table_json}
use Rattle.catalog_text.specs.AddsTokens.{AddsTokens}
use Rattle.catalog_text.specs.Signed.{TableFits}
use Rattle.catalog_text.proofs.text.write_each_table.Given as goal

abbrev pub invariant-loop-table : goal.invariant-loop-table
invariant-loop-table l = record {
  added : AddsTokens l.initial.out l.out (flat_map (λ t. json_tokens (table_json t)) (take l.table-index l.tables));
  fit : All TableFits (take l.table-index l.tables);
}
