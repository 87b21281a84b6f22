-- What is generated asks for a query.
use Rattle.std.proofs.Common.{◌≡◌, ℕ, List, subst}
use Rattle.query_core.specs.declared.catalog.Catalog.{Catalog}
use Rattle.query_core.specs.declared.options.Options.{Options}
use Rattle.query_core.specs.declared.query.Query.{Query}
use Rattle.sql_print.specs.Canonical.{canonical_text}
use Rattle.query_generator.specs.Catalog.{catalog_of}
use Rattle.query_generator.specs.Select.{select_of}
use Rattle.command_line.specs.declared.command.GenInput.{GenInput}
use Rattle.orca_cli.specs.Asked.{Asks}
use Rattle.orca_cli.specs.Generated.{IsGenerated}

-- what the generated texts ask for is the query that is made of the input
pub asks_generated : (input : GenInput) (options : Options) (catalog : Catalog) (asked : List ℕ) (query : Query)
    → catalog ≡ catalog_of input.number input.tables → asked ≡ canonical_text (select_of input.shape input.tables)
    → Asks catalog options asked query → IsGenerated input options query
asks_generated input options catalog asked query same_catalog same_text asks =
    subst (λ k. Asks k options (canonical_text (select_of input.shape input.tables)) query) same_catalog
    (subst (λ t. Asks catalog options t query) same_text asks)
