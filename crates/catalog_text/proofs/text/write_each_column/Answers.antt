use Rattle.std.proofs.Common.{subst}
use Rattle.std.proofs.lemmas.List.Elements.{All-more}
use Rattle.json.specs.Tree.{json_tokens}
use Rattle.query_core.specs.declared.catalog.ColumnInfo.{ColumnInfo}
use Rattle.catalog_text.specs.AddsTokens.{AddsTokens}
use Rattle.catalog_text.specs.Signed.{ColumnFits}
use Rattle.catalog_text.specs.Text.{column_json}
use Rattle.catalog_text.proofs.Adding.{more_added}
use Rattle.catalog_text.proofs.text.write_each_column.Goals as goal

-- one more column is written
pub loop-column-preserved : goal.loop-column-preserved
loop-column-preserved c =
    let columns = c.args.columns.now in
    let loop = c.loop-column in
    let within = c.loop-column-test.true in
    record {
      added = more_added column_json columns loop.column-index _ c.args.out.now loop.out c.write_column.new.out within
          loop.invariant.added
          (subst (λ (x : ColumnInfo). AddsTokens loop.out c.write_column.new.out (json_tokens (column_json x)))
          c.column-item.is c.in_ok-write_column.ensures.added);
      fit = All-more ColumnFits columns loop.column-index _ within loop.invariant.fit
          (subst ColumnFits c.column-item.is c.in_ok-write_column.ensures.fits);
    }
