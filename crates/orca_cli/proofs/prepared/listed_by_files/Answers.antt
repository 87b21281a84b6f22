use Rattle.std.proofs.Common.{Err}
use Rattle.orca_cli.specs.Lists.{IsListRefused}
use Rattle.orca_cli.specs.Prepared.{reads}
use Rattle.orca_cli.specs.declared.asked.Listed.{Listed}
use Rattle.orca_cli.proofs.Files.{first_stops, second_stops}
use Rattle.orca_cli.proofs.prepared.listed_by_files.Goals as goal

-- there is no catalogue
pub returns-in-Err-clause-stops : goal.returns-in-Err-clause-stops
returns-in-Err-clause-stops g c =
    first_stops (λ k. IsListRefused c.args.capacity) c.args.files.catalog.now c.args.files.list.now
    (reads (g.S.Shelf.held c.args.shelf.now) (g.S.Shelf.faults c.args.shelf.now)
    (g.S.Shelf.faults c.catalog_of_file.new.shelf)) c.in-Err.end c.in-Err.ensures.stops

-- there is no list
pub returns-in-Err-list_of_file-clause-stops : goal.returns-in-Err-list_of_file-clause-stops
returns-in-Err-list_of_file-clause-stops g c =
    second_stops {A = Listed} (λ k. IsListRefused c.args.capacity) c.args.files.catalog.now c.args.files.list.now
    (g.S.Shelf.held c.args.shelf.now) (g.S.Shelf.held c.catalog_of_file.new.shelf)
    (g.S.Shelf.faults c.args.shelf.now) (g.S.Shelf.faults c.catalog_of_file.new.shelf)
    (g.S.Shelf.faults c.list_of_file.new.shelf) c.in-Ok.catalog (Err c.in-Err-list_of_file.end) c.in-Ok.ensures.offers
    (c.in-Ok.ensures.same c.args.files.list.now) c.in-Ok.ensures.later c.in-Err-list_of_file.ensures.stops
