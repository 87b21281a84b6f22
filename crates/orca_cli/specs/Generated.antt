-- What `gen` makes, and the query for which that asks.
use Rattle.query_core.specs.declared.options.Options.{Options}
use Rattle.query_core.specs.declared.query.Query.{Query}
use Rattle.sql_print.specs.Canonical.{canonical_text}
use Rattle.query_generator.specs.Catalog.{catalog_of}
use Rattle.query_generator.specs.Select.{select_of}
use Rattle.command_line.specs.declared.command.GenInput.{GenInput}
use Rattle.orca_cli.specs.Asked.{Asks}

-- the catalogue and the query that are made of the input ask for this query
abbrev pub IsGenerated : GenInput → Options → Query → Type 0
IsGenerated input options query =
    Asks (catalog_of input.number input.tables) options (canonical_text (select_of input.shape input.tables)) query
