-- What a text asks for over a catalogue: a query, or the cause why it is refused.
use Rattle.std.specs.Prelude.{ℕ, List, ◌≡◌, ◌≢◌, ◌⊎◌, Ok, Err}
use Rattle.catalog_json.specs.Outcome.{reading_of}
use Rattle.catalog_json.specs.declared.fault.CatalogFault.{CatalogFault}
use Rattle.catalog_json.specs.declared.fault.CatalogFault.TheVariants as catalogs
use Rattle.sql_reader.specs.Faults.{IsFirst, IsReading}
use Rattle.sql_reader.specs.declared.faults.SqlFault.{SqlFault}
use Rattle.sql_reader.specs.declared.syntax.Select.{Select}
use Rattle.sql_bind.specs.Binding.{binding, IsBound}
use Rattle.sql_bind.specs.declared.fault.BindFault.{BindFault}
use Rattle.sql_bind.specs.declared.fault.BindFault.TheVariants as names
use Rattle.query_core.specs.declared.catalog.Catalog.{Catalog}
use Rattle.query_core.specs.declared.options.Options.{Options}
use Rattle.query_core.specs.declared.query.Query.{Query}
use Rattle.request_props.specs.Numbered.{IsWithinLimits, IsRefusedFor}
use Rattle.request_props.specs.declared.fault.PropsFault.{PropsFault}
use Rattle.request_props.specs.declared.fault.PropsFault.TheVariants as limits
use Rattle.orca_cli.specs.Texts.{catalog_cause, sql_cause, bind_cause, props_cause}

-- ---- the catalogue

-- the bytes say this catalogue
abbrev pub SaysCatalog : List ℕ → Catalog → Type 0
SaysCatalog bytes catalog = reading_of bytes ≡ Ok catalog

-- the bytes are no catalogue, and this is the cause
pub record IsNoCatalog (bytes cause : List ℕ) : Type 0 where
  pub fault : CatalogFault
  pub first : reading_of bytes ≡ Err fault
  pub not_memory : fault ≢ catalogs.Memory
  pub caused : cause ≡ catalog_cause fault

-- ---- the query

-- the text is read as a select, which is bound to this query with the options
pub record IsBoundAs (catalog : Catalog) (options : Options) (text : List ℕ) (query : Query) : Type 0 where
  pub select : Select
  pub reading : IsReading text select
  pub bound : IsBound select catalog options query

-- the text asks for this query, and the query is within the limits
pub record Asks (catalog : Catalog) (options : Options) (text : List ℕ) (query : Query) : Type 0 where
  pub bound : IsBoundAs catalog options text query
  pub within : IsWithinLimits query

-- the text is no select, and this is the cause
pub record IsUnread (text cause : List ℕ) : Type 0 where
  pub fault : SqlFault
  pub first : IsFirst text fault
  pub caused : cause ≡ sql_cause fault

-- the text is a select whose names can't be bound, and this is the cause
pub record IsUnbound (catalog : Catalog) (text cause : List ℕ) : Type 0 where
  pub select : Select
  pub reading : IsReading text select
  pub fault : BindFault
  pub first : binding select catalog ≡ Err fault
  pub not_memory : fault ≢ names.Memory
  pub caused : cause ≡ bind_cause fault

-- the text is bound to a query that has too many hashed lists, or else too many orders, and this is the cause
pub record IsUnnumbered (catalog : Catalog) (options : Options) (text cause : List ℕ) : Type 0 where
  pub query : Query
  pub bound : IsBoundAs catalog options text query
  pub fault : PropsFault
  pub too_many : IsRefusedFor query fault
  pub not_memory : fault ≢ limits.Memory
  pub caused : cause ≡ props_cause fault

-- the text is refused, and this is the cause
abbrev pub IsRefused : Catalog → Options → List ℕ → List ℕ → Type 0
IsRefused catalog options text cause = IsUnread text cause ⊎ IsUnbound catalog text cause
    ⊎ IsUnnumbered catalog options text cause
