use Rattle.orca_io.specs.Shelf.{Exceeds}
use Rattle.orca_cli.specs.Prepared.{FileStops, IsQueryRefused, reads}
use Rattle.orca_cli.proofs.Files.{as_ended, long_file, long_query}
use Rattle.orca_cli.proofs.queries.text_of_file.Goals as goal

-- a file over the limit is a text that is too long
pub returns-in_ok-refused_query-in-Ok-None-clause-stops : goal.returns-in_ok-refused_query-in-Ok-None-clause-stops
returns-in_ok-refused_query-in-Ok-None-clause-stops g c = λ catalog options.
    let exceeds : Exceeds (g.S.Shelf.held c.args.shelf.now c.args.name.now) 65536 =
    rw c.in-Ok-None.field-0-is at c.in-Ok-None.ensures.read in
    let shelf = reads (g.S.Shelf.held c.args.shelf.now) (g.S.Shelf.faults c.args.shelf.now)
    (g.S.Shelf.faults c.read_file.new.shelf) in
    let Refuses = IsQueryRefused catalog options in
    as_ended (FileStops Refuses c.args.name.now shelf) c.in_ok-refused_query-in-Ok-None.field-0 _ _
    c.in_ok-refused_query-in-Ok-None.ensures
    (long_file Refuses c.args.name.now shelf 65536 _ _
    (long_query catalog options (λ bytes long. (c.one_outcome.ensures.too_long bytes).1 long)) exceeds)
