use Rattle.std.proofs.Common.{◌∙◌}
use Rattle.orca_cli.specs.Asked.{IsBoundAs}
use Rattle.orca_cli.specs.Prepared.{IsQueryRefused}
use Rattle.orca_cli.proofs.Files.{as_ended, unbound_query}
use Rattle.orca_cli.proofs.queries.query_of_select.Goals as goal

-- the select is bound, so the text is
pub returns-in-Ok-clause-stops : goal.returns-in-Ok-clause-stops
returns-in-Ok-clause-stops c = λ text reading.
    let bound : IsBoundAs c.args.catalog.now c.args.options text c.in-Ok.query =
    record { select = c.args.select.now; reading = reading; bound = c.in-Ok.ensures } in
    c.numbered.ensures.stops c.args.catalog.now c.args.options text bound

-- the line gives the fault of the names
pub returns-in_ok-refused_query-in-Err-clause-stops : goal.returns-in_ok-refused_query-in-Err-clause-stops
returns-in_ok-refused_query-in-Err-clause-stops c = λ text reading.
    let cause = c.in_ok-cause-in-Err.ensures in
    as_ended (IsQueryRefused c.args.catalog.now c.args.options text) c.in_ok-refused_query-in-Err.field-0 _ _
    c.in_ok-refused_query-in-Err.ensures
    (unbound_query c.args.catalog.now c.args.options text c.deref.result.now c.args.select.now c.in-Err.fault reading
    (c.in-Err.ensures cause.not_memory) cause.not_memory (c.deref.ensures ∙ cause.text))
