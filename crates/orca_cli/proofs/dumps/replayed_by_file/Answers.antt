use Rattle.std.proofs.Common.{sym, subst}
use Rattle.orca_io.specs.Shelf.{Exceeds}
use Rattle.orca_cli.specs.Prepared.{FileStops, IsReplayRefused, reads}
use Rattle.orca_cli.specs.Reading.{AreHeld}
use Rattle.orca_cli.proofs.Files.{as_ended, file_refused, long_file}
use Rattle.orca_cli.proofs.DumpRefusals.{long_dump}
use Rattle.orca_cli.proofs.dumps.replayed_by_file.Goals as goal

-- the bytes that were read are those of the file
pub returns-in-Ok-Some-clause-stops : goal.returns-in-Ok-Some-clause-stops
returns-in-Ok-Some-clause-stops g c =
    let file = g.S.Shelf.held c.args.shelf.now c.args.name.now in
    let read : AreHeld file 1179648 c.in-Ok-Some.bytes.items = rw c.in-Ok-Some.field-0-is at c.in-Ok-Some.ensures.read
    in
    let are : AreHeld file 1179648 c.deref.result.now = subst (AreHeld file 1179648) (sym c.deref.ensures.value) read in
    let shelf = reads (g.S.Shelf.held c.args.shelf.now) (g.S.Shelf.faults c.args.shelf.now)
    (g.S.Shelf.faults c.read_file.new.shelf) in
    file_refused IsReplayRefused c.args.name.now shelf c.deref.result.now c.replayed_bytes.result are.told
    c.replayed_bytes.ensures.stops

-- a file over the limit is no dump
pub returns-in_ok-refused_dump-in-Ok-None-clause-stops : goal.returns-in_ok-refused_dump-in-Ok-None-clause-stops
returns-in_ok-refused_dump-in-Ok-None-clause-stops g c =
    let exceeds : Exceeds (g.S.Shelf.held c.args.shelf.now c.args.name.now) 1179648 =
    rw c.in-Ok-None.field-0-is at c.in-Ok-None.ensures.read in
    let shelf = reads (g.S.Shelf.held c.args.shelf.now) (g.S.Shelf.faults c.args.shelf.now)
    (g.S.Shelf.faults c.read_file.new.shelf) in
    as_ended (FileStops IsReplayRefused c.args.name.now shelf) c.in_ok-refused_dump-in-Ok-None.field-0 _ _
    c.in_ok-refused_dump-in-Ok-None.ensures
    (long_file IsReplayRefused c.args.name.now shelf 1179648 _ _ long_dump exceeds)
