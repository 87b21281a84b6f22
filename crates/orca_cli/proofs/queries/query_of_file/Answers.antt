use Rattle.std.proofs.Common.{sym, subst}
use Rattle.orca_cli.specs.Prepared.{AreTold, IsQueryRefused, reads}
use Rattle.orca_cli.proofs.Files.{file_refused}
use Rattle.orca_cli.proofs.queries.query_of_file.Goals as goal

-- the text couldn't be had
pub returns-in-Err-clause-stops : goal.returns-in-Err-clause-stops
returns-in-Err-clause-stops g c = c.in-Err.ensures.stops c.args.catalog.now c.args.options

-- the text that was read is that of the file
pub returns-in-Ok-clause-stops : goal.returns-in-Ok-clause-stops
returns-in-Ok-clause-stops g c =
    let file = g.S.Shelf.held c.args.shelf.now c.args.name.now in
    let told : AreTold file c.deref.result.now = subst (AreTold file) (sym c.deref.ensures.value) c.in-Ok.ensures.told
    in
    let shelf = reads (g.S.Shelf.held c.args.shelf.now) (g.S.Shelf.faults c.args.shelf.now)
    (g.S.Shelf.faults c.text_of_file.new.shelf) in
    file_refused (IsQueryRefused c.args.catalog.now c.args.options) c.args.name.now shelf c.deref.result.now
    c.query_of_text.result told c.query_of_text.ensures.stops
