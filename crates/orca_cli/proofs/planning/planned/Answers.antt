use Rattle.orca_cli.proofs.Searching.{plan_of_found}
use Rattle.orca_cli.proofs.planning.planned.Goals as goal

-- the text is that of what was found
pub returns : goal.returns
returns c = plan_of_found c.args.query.now c.in_ok-found.found c.status_of-status.result c.in_ok-plan_text.field-0.items
    c.status_of-status.ensures c.in_ok-found.ensures c.in_ok-plan_text.ensures
