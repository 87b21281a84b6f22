use Rattle.orca_cli.specs.Prepared.{IsQueryRefused, reads}
use Rattle.orca_cli.proofs.Files.{file_refused}
use Rattle.orca_cli.proofs.dumps.dumped_over.Goals as goal

-- the text couldn't be had
pub returns-in-Err-clause-stops : goal.returns-in-Err-clause-stops
returns-in-Err-clause-stops g c = c.in-Err.ensures.stops c.args.catalog c.args.options

-- the text that was read is that of the file
pub returns-in-Ok-clause-stops : goal.returns-in-Ok-clause-stops
returns-in-Ok-clause-stops g c =
    let shelf = reads (g.S.Shelf.held c.args.shelf.now) (g.S.Shelf.faults c.args.shelf.now)
    (g.S.Shelf.faults c.text_of_file.new.shelf) in
    file_refused (IsQueryRefused c.args.catalog c.args.options) c.args.name.now shelf c.in-Ok.query.items
    c.dumped_of.result c.in-Ok.ensures.told c.dumped_of.ensures.stops
