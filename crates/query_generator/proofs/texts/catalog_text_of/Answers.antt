use Rattle.std.proofs.Common.{sym, subst}
use Rattle.query_core.specs.Catalog.{IsCatalog}
use Rattle.query_generator.proofs.CatalogKept.{catalog_kept, catalog_plain}
use Rattle.query_generator.proofs.TextsRead.{catalog_said}
use Rattle.query_generator.proofs.texts.catalog_text_of.Goals as goal

-- the catalogue of a number keeps the limits
pub write_catalog-requires-clause-kept : goal.write_catalog-requires-clause-kept
write_catalog-requires-clause-kept c = subst IsCatalog (sym c.in_ok-catalog.ensures)
    (catalog_kept c.args.number c.args.tables c.requires)

-- and the first version can say all of it
pub write_catalog-requires-clause-said : goal.write_catalog-requires-clause-said
write_catalog-requires-clause-said c = rw c.in_ok-catalog.ensures (catalog_plain c.args.number c.args.tables)

pub returns : goal.returns
returns c = catalog_said (λ v. v.items) c.args.number c.args.tables c.in_ok-catalog.catalog c.write_catalog.result
    c.requires c.in_ok-catalog.ensures c.write_catalog.ensures.text c.write_catalog.ensures.reads_back
