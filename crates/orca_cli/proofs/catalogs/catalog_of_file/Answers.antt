use Rattle.std.proofs.Common.{sym, subst}
use Rattle.orca_io.specs.Shelf.{Exceeds}
use Rattle.orca_cli.specs.Prepared.{FileStops, IsCatalogRefused, reads}
use Rattle.orca_cli.specs.Reading.{AreHeld}
use Rattle.orca_cli.proofs.Files.{as_ended, file_refused, long_catalog, long_file}
use Rattle.orca_cli.proofs.catalogs.catalog_of_file.Goals as goal

-- the bytes that were read are those of the file
pub returns-in-Ok-Some-clause-stops : goal.returns-in-Ok-Some-clause-stops
returns-in-Ok-Some-clause-stops g c =
    let file = g.S.Shelf.held c.args.shelf.now c.args.name.now in
    let read : AreHeld file 1048576 c.in-Ok-Some.bytes.items = rw c.in-Ok-Some.field-0-is at c.in-Ok-Some.ensures.read
    in
    let are : AreHeld file 1048576 c.deref.result.now = subst (AreHeld file 1048576) (sym c.deref.ensures.value) read in
    let shelf = reads (g.S.Shelf.held c.args.shelf.now) (g.S.Shelf.faults c.args.shelf.now)
    (g.S.Shelf.faults c.read_file.new.shelf) in
    file_refused IsCatalogRefused c.args.name.now shelf c.deref.result.now c.catalog_of_bytes.result are.told
    c.catalog_of_bytes.ensures.stops

-- a file over the limit is no catalogue
pub returns-in_ok-refused_catalog-in-Ok-None-clause-stops : goal.returns-in_ok-refused_catalog-in-Ok-None-clause-stops
returns-in_ok-refused_catalog-in-Ok-None-clause-stops g c =
    let exceeds : Exceeds (g.S.Shelf.held c.args.shelf.now c.args.name.now) 1048576 =
    rw c.in-Ok-None.field-0-is at c.in-Ok-None.ensures.read in
    let shelf = reads (g.S.Shelf.held c.args.shelf.now) (g.S.Shelf.faults c.args.shelf.now)
    (g.S.Shelf.faults c.read_file.new.shelf) in
    as_ended (FileStops IsCatalogRefused c.args.name.now shelf) c.in_ok-refused_catalog-in-Ok-None.field-0 _ _
    c.in_ok-refused_catalog-in-Ok-None.ensures
    (long_file IsCatalogRefused c.args.name.now shelf 1048576 _ _ long_catalog exceeds)
