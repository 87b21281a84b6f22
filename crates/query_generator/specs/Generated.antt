-- What is generated: the texts of a catalogue and of a query over it, neither of which is refused.
use Rattle.std.specs.Prelude.{◌≡◌, ℕ, List, Ok}
use Rattle.sql_reader.specs.declared.syntax.Select.{Select}
use Rattle.sql_reader.specs.Faults.{IsReading}
use Rattle.sql_print.specs.Canonical.{canonical_text}
use Rattle.sql_print.specs.Unplaced.{unplaced}
use Rattle.catalog_json.specs.Outcome.{reading_of}
use Rattle.catalog_json.specs.declared.version.CatalogVersion.TheVariants.{One}
use Rattle.catalog_text.specs.Text.{catalog_text}
use Rattle.query_generator.specs.declared.shape.GenShape.{GenShape}
use Rattle.query_generator.specs.Catalog.{catalog_of}
use Rattle.query_generator.specs.Select.{select_of}

-- the text of the number's catalogue in version 1, which is read as this catalogue
pub record IsCatalogText (number tables : ℕ) (text : List ℕ) : Type 0 where
  pub written : text ≡ catalog_text One (catalog_of number tables)
  pub read : reading_of text ≡ Ok (catalog_of number tables)

-- the canonical text of the shape's query, which is read as this query but for offsets
pub record IsQueryText (shape : GenShape) (tables : ℕ) (text : List ℕ) : Type 0 where
  pub written : text ≡ canonical_text (select_of shape tables)
  pub select : Select
  pub read : IsReading text select
  pub same : unplaced select ≡ select_of shape tables
