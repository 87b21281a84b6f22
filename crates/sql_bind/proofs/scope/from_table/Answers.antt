use Rattle.std.proofs.Common.{◌∙◌, sym, ap, List}
use Rattle.query_core.specs.declared.catalog.TableInfo.{TableInfo}
use Rattle.sql_bind.specs.Scope.{info_of}
use Rattle.sql_bind.proofs.ScopeKept.{info_is}
use Rattle.sql_bind.proofs.scope.from_table.Goals as goal

-- what is found is a table of the catalogue
pub aliased-requires : goal.aliased-requires
aliased-requires c = λ info found.
    info_is c.args.catalog.now c.requires.catalogue c.args.item.now.table info
    (ap (λ (tables : List TableInfo). info_of tables c.args.item.now.table) (sym c.as_slice.ensures)
    ∙ (sym c.info_of-found.ensures ∙ found))
