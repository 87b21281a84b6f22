use Rattle.catalog_text.specs.Text.{column_json}
use Rattle.catalog_text.proofs.Adding.{token_added, list_added}
use Rattle.catalog_text.proofs.text.write_columns.Goals as goal

-- the elements stand between the brackets
pub returns-clause-added : goal.returns-clause-added
returns-clause-added c =
    list_added (column_json) c.args.columns.now c.end_array.result c.args.out.now c.begin_array.new.self
    c.write_each_column.new.out c.end_array.new.self
    (token_added _ _ _ _ c.in_ok-begin_array.ensures) c.in_ok-write_each_column.ensures.added c.end_array.ensures
