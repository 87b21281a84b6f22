use Rattle.std.proofs.Common.{◌∙◌}
use Rattle.orca_cli.specs.Prepared.{IsQueryRefused}
use Rattle.orca_cli.proofs.Files.{as_ended, unnumbered_query}
use Rattle.orca_cli.proofs.queries.numbered.Goals as goal

-- the line gives how many lists or orders there are
pub returns-in_ok-refused_query-in-Err-clause-stops : goal.returns-in_ok-refused_query-in-Err-clause-stops
returns-in_ok-refused_query-in-Err-clause-stops c = λ catalog options text bound.
    let cause = c.in_ok-cause-in-Err.ensures in
    as_ended (IsQueryRefused catalog options text) c.in_ok-refused_query-in-Err.field-0 _ _
    c.in_ok-refused_query-in-Err.ensures
    (unnumbered_query catalog options text c.deref.result.now c.args.query c.in-Err.fault bound c.in-Err.ensures.fault
    cause.not_memory (c.deref.ensures ∙ cause.text))
