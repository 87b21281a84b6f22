-- The parts of a query that was read, before they are judged.
use Rattle.std.specs.Prelude.{◌≡◌, Ok}
use Rattle.query_core.specs.Catalog.{IsCatalog}
use Rattle.query_core.specs.Results.{AreOptions}
use Rattle.query_core.specs.declared.catalog.Catalog.{Catalog}
use Rattle.query_core.specs.declared.options.Options.{Options}
use Rattle.sql_reader.specs.Readable.{IsReadable}
use Rattle.sql_reader.specs.declared.syntax.Select.{Select}
use Rattle.sql_bind.specs.declared.parts.Parts.{Parts}
use Rattle.sql_bind.specs.Parts.{parts_of}

-- what is given to bind keeps what it asks for, and the names of the select stand for these parts
pub record AreNamed (select : Select) (catalog : Catalog) (chosen_options : Options) (parts : Parts) : Type 0 where
  pub readable : IsReadable select
  pub catalogue : IsCatalog catalog
  pub options : AreOptions chosen_options
  pub named : parts_of select catalog ≡ Ok parts
