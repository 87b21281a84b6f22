-- The part of a catalogue that a query reads, and its text.
use Rattle.std.specs.Prelude.{ℕ, Bool, List, filter}
use Rattle.std.specs.List.{list_any}
use Rattle.std.specs.Str.{bytes_eq}
use Rattle.query_core.specs.declared.catalog.TableInfo.{TableInfo}
use Rattle.query_core.specs.declared.catalog.Catalog.{Catalog}
use Rattle.sql_reader.specs.declared.syntax.FromItem.{FromItem}
use Rattle.sql_reader.specs.declared.syntax.Select.{Select}
use Rattle.catalog_json.specs.declared.version.CatalogVersion.TheVariants.{Two}
use Rattle.catalog_text.specs.Text.{catalog_text}

-- FROM names the table
abbrev pub is_named : List FromItem → TableInfo → Bool
is_named from table = list_any (λ item. bytes_eq table.name item.table) from

-- the catalogue with the tables that FROM names, in the catalogue's order and with all that it says of them
abbrev pub named_catalog : Select → Catalog → Catalog
named_catalog select catalog = record {
  segments = catalog.segments;
  tables = filter (is_named select.from) catalog.tables;
}

-- the text of that catalogue in a dump: in the second version, which can say each catalogue
abbrev pub dumped_catalog : Select → Catalog → List ℕ
dumped_catalog select catalog = catalog_text Two (named_catalog select catalog)
