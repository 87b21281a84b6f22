use Rattle.orca_io.specs.Shelf.{Exceeds}
use Rattle.orca_cli.specs.Lists.{IsListRefused}
use Rattle.orca_cli.specs.Prepared.{FileStops, reads}
use Rattle.orca_cli.proofs.Files.{as_ended, long_file, long_list}
use Rattle.orca_cli.proofs.lists.list_of_file.Goals as goal

-- a file over the limit is a list that is too long
pub returns-in_ok-refused_batch-in-Ok-None-clause-stops : goal.returns-in_ok-refused_batch-in-Ok-None-clause-stops
returns-in_ok-refused_batch-in-Ok-None-clause-stops g c =
    let exceeds : Exceeds (g.S.Shelf.held c.args.shelf.now c.args.name.now) 1048576 =
    rw c.in-Ok-None.field-0-is at c.in-Ok-None.ensures.read in
    let shelf = reads (g.S.Shelf.held c.args.shelf.now) (g.S.Shelf.faults c.args.shelf.now)
    (g.S.Shelf.faults c.read_file.new.shelf) in
    as_ended (FileStops (IsListRefused c.args._capacity) c.args.name.now shelf)
    c.in_ok-refused_batch-in-Ok-None.field-0 _ _ c.in_ok-refused_batch-in-Ok-None.ensures
    (long_file (IsListRefused c.args._capacity) c.args.name.now shelf 1048576 _ _ (long_list c.args._capacity) exceeds)
