use Rattle.std.proofs.Common.{ap, length, sym, ◌∙◌}
use Rattle.std.specs.Option.{option_map_or}
use Rattle.query_core.proofs.Lookups.{found_at, none_at}
use Rattle.query_core.proofs.query.Query.index_count.Goals as goal

pub returns-in-Some : goal.returns-in-Some
returns-in-Some c =
    c.len.ensures
    ∙ sym (ap (λ found. option_map_or (λ table. length table.indexes) found 0)
    (found_at c.args.self.now.tables c.as_slice.result.now c.args.table c.in-Some.found.now c.as_slice.ensures
    c.in-Some.ensures.lookup.3.0 c.in-Some.ensures.lookup.1))

pub returns-in-None : goal.returns-in-None
returns-in-None c =
    sym (ap (λ found. option_map_or (λ table. length table.indexes) found 0)
    (none_at c.args.self.now.tables c.as_slice.result.now c.args.table c.as_slice.ensures
    c.in-None.ensures.lookup.3))
