-- there are as many columns as values
use Rattle.catalog_json.specs.Walk.{column_at}
use Rattle.catalog_json.proofs.Steps.{no_more}
use Rattle.catalog_json.proofs.column.read_columns.Goals as goal

pub returns-clause-count : goal.returns-clause-count
returns-clause-count c =
    no_more (column_at c.args.version c.args.t) c.in_ok-values.values.items c.read_each_column.result 1000
    c.read_each_column.ensures c.in_ok-values.ensures.within
