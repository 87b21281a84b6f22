use Rattle.command_line.specs.Views.{file_names, plan_names}
use Rattle.orca_cli.specs.Prepared.{FileStops, IsPlanTooLong, QueryStops, CheckStops, by_query, by_plan, reads}
use Rattle.orca_cli.proofs.Ended.{ends_then}
use Rattle.orca_cli.proofs.Files.{stops_later}
use Rattle.orca_cli.proofs.prepared.checked_by_files.Goals as goal

-- there is no query
pub returns-in-Err-clause-stops : goal.returns-in-Err-clause-stops
returns-in-Err-clause-stops g c =
    let shelf = reads (g.S.Shelf.held c.args.shelf.now) (g.S.Shelf.faults c.args.shelf.now)
    (g.S.Shelf.faults c.asked_by_files.new.shelf) in
    ends_then (QueryStops (file_names c.args.named.files) c.args.options shelf)
    (CheckStops (plan_names c.args.named) c.args.options shelf) c.in-Err.end (λ s t stop. by_query stop)
    c.in-Err.ensures.stops

-- there is no text of a plan
pub returns-in-Err-plan_of_file-clause-stops : goal.returns-in-Err-plan_of_file-clause-stops
returns-in-Err-plan_of_file-clause-stops g c =
    let name = c.args.named.plan.now in
    let held = g.S.Shelf.held c.args.shelf.now in
    let told = g.S.Shelf.held c.asked_by_files.new.shelf in
    let before = g.S.Shelf.faults c.args.shelf.now in
    let middle = g.S.Shelf.faults c.asked_by_files.new.shelf in
    let after = g.S.Shelf.faults c.plan_of_file.new.shelf in
    ends_then (FileStops IsPlanTooLong name (reads told middle after))
    (CheckStops (plan_names c.args.named) c.args.options (reads held before after)) c.in-Err-plan_of_file.end
    (λ s t stop. by_plan c.in-Ok.asked.query c.in-Ok.ensures.asks.query_is
    (stops_later IsPlanTooLong name held told before middle after s t (c.in-Ok.ensures.same name) c.in-Ok.ensures.later
    stop)) c.in-Err-plan_of_file.ensures.stops
