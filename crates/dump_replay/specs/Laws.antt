-- What follows from the form of a dump, and from what stands in it.
use Rattle.std.specs.Prelude.{◌≡◌, ◌↔◌, ℕ, List}
use Rattle.query_core.specs.declared.catalog.Catalog.{Catalog}
use Rattle.query_core.specs.declared.options.Options.{Options}
use Rattle.query_core.specs.declared.query.Query.{Query}
use Rattle.sql_reader.specs.declared.syntax.Select.{Select}
use Rattle.sql_bind.specs.Binding.{binding, IsBound}
use Rattle.dump_replay.specs.Named.{named_catalog}
use Rattle.dump_replay.specs.Dumps.{IsDump, IsLineFault}
use Rattle.dump_replay.specs.declared.dump.Dump.{Dump}

-- a text says one dump at most
abbrev pub SaysOne : Type 0
SaysOne = (text : List ℕ) (first second : Dump) → IsDump text first → IsDump text second → first ≡ second

-- it has one such fault at most
abbrev pub HasOneFault : Type 0
HasOneFault = (text : List ℕ) (first second : ℕ) → IsLineFault text first → IsLineFault text second → first ≡ second

-- no text has both
abbrev pub SaysOrLacks : Type 0
SaysOrLacks = (text : List ℕ) (dump : Dump) (number : ℕ) → IsDump text dump → IsLineFault text number → ⊥

-- the names of a select are bound over the tables that its FROM names as over the whole catalogue, with the same fault
-- where there is one
abbrev pub BindsAlike : Type 0
BindsAlike = (select : Select) (catalog : Catalog)
    → binding select (named_catalog select catalog) ≡ binding select catalog

-- the select is bound to the same queries
abbrev pub BoundAlike : Type 0
BoundAlike = (select : Select) (catalog : Catalog) (options : Options) (query : Query)
    → IsBound select (named_catalog select catalog) options query ↔ IsBound select catalog options query
