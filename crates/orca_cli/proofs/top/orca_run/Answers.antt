use Rattle.std.proofs.Common.{map, string_bytes}
use Rattle.command_line.specs.Reading.{command_of}
use Rattle.orca_cli.specs.Prepared.{reads}
use Rattle.orca_cli.specs.Run.{IsRun}
use Rattle.orca_cli.proofs.Ended.{put_of}
use Rattle.orca_cli.proofs.top.orca_run.Goals as goal

-- the text of the end was put
pub returns-clause-ends : goal.returns-clause-ends
returns-clause-ends g c =
    put_of (IsRun (command_of (map string_bytes c.args.words.now))
    (reads (g.S.Shelf.held c.args.shelf.now) (g.S.Shelf.faults c.args.shelf.now)
    (g.S.Shelf.faults c.end_as_chosen-end.new.shelf)) c.args.note.now c.end_as_chosen-end.new.note)
    c.end_as_chosen-end.result _ c.put.result c.end_as_chosen-end.ensures.ends c.put.ensures

-- so it is complete
pub returns-clause-completes : goal.returns-clause-completes
returns-clause-completes g c = (c.endings_have_causes.ensures.causes _ _ _ _ _ _ (returns-clause-ends g c)).completes
