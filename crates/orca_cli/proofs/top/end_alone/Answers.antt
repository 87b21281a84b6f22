use Rattle.std.proofs.Common.{map, string_bytes, refl}
use Rattle.command_line.specs.Reading.{command_of}
use Rattle.orca_cli.specs.Prepared.{reads}
use Rattle.orca_cli.proofs.Ended.{stopped_run}
use Rattle.orca_cli.proofs.top.end_alone.Goals as goal

-- the work for which the command asks was done
pub returns-in-Ok-clause-ends : goal.returns-in-Ok-clause-ends
returns-in-Ok-clause-ends g c =
    c.done_alone.ensures (command_of (map string_bytes c.args.words.now))
    (reads (g.S.Shelf.held c.args.shelf.now) (g.S.Shelf.faults c.args.shelf.now)
    (g.S.Shelf.faults c.prepared.new.shelf)) c.in-Ok.ensures.wanted

-- nothing was searched
pub returns-in-Err-clause-ends : goal.returns-in-Err-clause-ends
returns-in-Err-clause-ends g c =
    stopped_run (command_of (map string_bytes c.args.words.now))
    (reads (g.S.Shelf.held c.args.shelf.now) (g.S.Shelf.faults c.args.shelf.now)
    (g.S.Shelf.faults c.prepared.new.shelf)) c.args.note.now c.args.note.now c.in-Err.end refl c.in-Err.ensures.stops
