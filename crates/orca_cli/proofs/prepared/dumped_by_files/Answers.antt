use Rattle.orca_cli.specs.Prepared.{IsQueryRefused, reads}
use Rattle.orca_cli.proofs.Files.{first_stops, second_stops}
use Rattle.orca_cli.proofs.prepared.dumped_by_files.Goals as goal

-- there is no catalogue
pub returns-in-Err-clause-stops : goal.returns-in-Err-clause-stops
returns-in-Err-clause-stops g c =
    first_stops (λ k. IsQueryRefused k c.args.options) c.args.files.catalog.now c.args.files.query.now
    (reads (g.S.Shelf.held c.args.shelf.now) (g.S.Shelf.faults c.args.shelf.now)
    (g.S.Shelf.faults c.catalog_of_file.new.shelf)) c.in-Err.end c.in-Err.ensures.stops

-- there is no query over it
pub returns-in-Ok-clause-stops : goal.returns-in-Ok-clause-stops
returns-in-Ok-clause-stops g c =
    second_stops (λ k. IsQueryRefused k c.args.options) c.args.files.catalog.now c.args.files.query.now
    (g.S.Shelf.held c.args.shelf.now) (g.S.Shelf.held c.catalog_of_file.new.shelf)
    (g.S.Shelf.faults c.args.shelf.now) (g.S.Shelf.faults c.catalog_of_file.new.shelf)
    (g.S.Shelf.faults c.dumped_over.new.shelf) c.in-Ok.catalog c.dumped_over.result c.in-Ok.ensures.offers
    (c.in-Ok.ensures.same c.args.files.query.now) c.in-Ok.ensures.later c.dumped_over.ensures.stops
