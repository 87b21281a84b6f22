use Rattle.std.proofs.Common.{subst}
use Rattle.std.proofs.lemmas.List.Elements.{All-more}
use Rattle.json.specs.Tree.{json_tokens}
use Rattle.query_core.specs.declared.catalog.TableInfo.{TableInfo}
use Rattle.catalog_text.specs.AddsTokens.{AddsTokens}
use Rattle.catalog_text.specs.Signed.{TableFits}
use Rattle.catalog_text.specs.Text.{table_json}
use Rattle.catalog_text.proofs.Adding.{more_added}
use Rattle.catalog_text.proofs.text.write_each_table.Goals as goal

-- one more table is written
pub loop-table-preserved : goal.loop-table-preserved
loop-table-preserved c =
    let tables = c.args.tables.now in
    let loop = c.loop-table in
    let within = c.loop-table-test.true in
    record {
      added = more_added table_json tables loop.table-index _ c.args.out.now loop.out c.write_table.new.out within
          loop.invariant.added
          (subst (λ (x : TableInfo). AddsTokens loop.out c.write_table.new.out (json_tokens (table_json x)))
          c.table-item.is
          c.in_ok-write_table.ensures.added);
      fit = All-more TableFits tables loop.table-index _ within loop.invariant.fit
          (subst TableFits c.table-item.is c.in_ok-write_table.ensures.fits);
    }
