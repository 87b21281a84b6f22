use Rattle.orca_io.specs.Shelf.{Exceeds}
use Rattle.orca_cli.specs.Prepared.{IsPlanTooLong, FileStops, reads}
use Rattle.orca_cli.proofs.Files.{as_ended, long_file, long_plan}
use Rattle.orca_cli.proofs.checks.plan_of_file.Goals as goal

-- a file over the limit is too long for the text of a plan
pub returns-in_ok-refused_plan-in-Ok-None-clause-stops : goal.returns-in_ok-refused_plan-in-Ok-None-clause-stops
returns-in_ok-refused_plan-in-Ok-None-clause-stops g c =
    let exceeds : Exceeds (g.S.Shelf.held c.args.shelf.now c.args.name.now) 1048576 =
    rw c.in-Ok-None.field-0-is at c.in-Ok-None.ensures.read in
    let shelf = reads (g.S.Shelf.held c.args.shelf.now) (g.S.Shelf.faults c.args.shelf.now)
    (g.S.Shelf.faults c.read_file.new.shelf) in
    as_ended (FileStops IsPlanTooLong c.args.name.now shelf) c.in_ok-refused_plan-in-Ok-None.field-0 _ _
    c.in_ok-refused_plan-in-Ok-None.ensures
    (long_file IsPlanTooLong c.args.name.now shelf 1048576 _ _ long_plan exceeds)
