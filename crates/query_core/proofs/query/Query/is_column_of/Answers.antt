use Rattle.std.proofs.Common.{ap, false, sym}
use Rattle.std.specs.Prelude.{◌==◌}
use Rattle.std.specs.Option.{option_map_or}
use Rattle.query_core.proofs.Lookups.{found_at, none_at}
use Rattle.query_core.proofs.query.Query.is_column_of.Goals as goal

pub returns-in-Some : goal.returns-in-Some
returns-in-Some c =
    sym (ap (λ found. option_map_or (λ item. item.table == c.args.table) found false)
    (found_at c.args.self.now.items c.as_slice.result.now c.args.item c.in-Some.column.now c.as_slice.ensures
    c.in-Some.ensures.lookup.3.0 c.in-Some.ensures.lookup.1))

pub returns-in-None : goal.returns-in-None
returns-in-None c =
    sym (ap (λ found. option_map_or (λ item. item.table == c.args.table) found false)
    (none_at c.args.self.now.items c.as_slice.result.now c.args.item c.as_slice.ensures c.in-None.ensures.lookup.3))
