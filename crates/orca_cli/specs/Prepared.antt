-- What a command asks for, and how a run ends that searches nothing.
use Rattle.std.specs.Prelude.{◌≡◌, ℕ, List, Option, None, Some, IfSome, Ok}
use Rattle.orca_base.specs.Causes.{Rose}
use Rattle.query_core.specs.declared.catalog.Catalog.{Catalog}
use Rattle.query_core.specs.declared.options.Options.{Options}
use Rattle.query_core.specs.declared.query.Query.{Query}
use Rattle.text_check.specs.Outcome.{IsTooLong}
use Rattle.text_check.specs.declared.text_fault.TextFault.TheVariants.{TooLong}
use Rattle.dump_replay.specs.Dumps.{IsReadAs}
use Rattle.dump_replay.specs.declared.dump.Dump.{Dump}
use Rattle.command_line.specs.Command.{FileNames, PlanNames, AnyTask, AnyCommand}
use Rattle.command_line.specs.Command.{plan, gen, stages, check, dump, replay, batch}
use Rattle.command_line.specs.declared.settings.Settings.{Settings}
use Rattle.command_line.specs.declared.command.GenInput.{GenInput}
use Rattle.orca_cli.specs.Asked.{SaysCatalog, IsNoCatalog, Asks, IsRefused}
use Rattle.orca_cli.specs.Generated.{IsGenerated}
use Rattle.orca_cli.specs.Lists.{IsListRefused}
use Rattle.orca_cli.specs.Replays.{IsDumpRefused}
use Rattle.orca_cli.specs.Texts as texts
use Rattle.orca_cli.specs.declared.status.Status.{Status}
use Rattle.orca_cli.specs.declared.status.Status.TheVariants.{Usage, QueryRefused}
use Rattle.orca_cli.specs.declared.status.Status.TheVariants.{CatalogRefused, ReadFault, PlanRefused}

-- what a call finds on its shelf: what is held under each name, where it is told, and each name's count of faults
-- before the call and after it
pub record Reads : Type 0 where
  pub held : List ℕ → Option (List ℕ)
  pub before : List ℕ → ℕ
  pub after : List ℕ → ℕ

abbrev pub reads : (List ℕ → Option (List ℕ)) → (List ℕ → ℕ) → (List ℕ → ℕ) → Reads
reads held before after = record { held = held; before = before; after = after }

-- ---- what is asked for

-- the bytes are those that the shelf tells of, where it tells
abbrev pub AreTold : Option (List ℕ) → List ℕ → Type 0
AreTold held bytes = IfSome held (λ content. bytes ≡ content)

-- the bytes under a name say this catalogue
pub record Offers (held : Option (List ℕ)) (catalog : Catalog) : Type 0 where
  pub bytes : List ℕ
  pub told : AreTold held bytes
  pub says : SaysCatalog bytes catalog

-- the bytes under a name ask for this query
pub record IsAskedAt (catalog : Catalog) (options : Options) (held : Option (List ℕ)) (query : Query) : Type 0 where
  pub asked : List ℕ
  pub told : AreTold held asked
  pub asks : Asks catalog options asked query

-- two files ask for this query
pub record FilesAsk (files : FileNames) (options : Options) (held : List ℕ → Option (List ℕ)) (query : Query) : Type 0
  where
    pub catalog : Catalog
    pub offers : Offers (held files.catalog) catalog
    pub asked : IsAskedAt catalog options (held files.query) query

-- the task asks for the search of this query, and nothing else; most tasks ask for more, or for none
abbrev pub IsAskedBy : AnyTask → Options → (List ℕ → Option (List ℕ)) → Query → Type 0
IsAskedBy (plan files) options held query = FilesAsk files options held query
IsAskedBy (gen input) options held query = IsGenerated input options query
IsAskedBy (stages named) options held query = ⊥
IsAskedBy (check named) options held query = ⊥
IsAskedBy (dump files) options held query = ⊥
IsAskedBy (replay file) options held query = ⊥
IsAskedBy (batch files) options held query = ⊥

-- what the query is made of, where it is generated
abbrev pub generated_in : AnyTask → Option GenInput
generated_in (plan files) = None
generated_in (gen input) = Some input
generated_in (stages named) = None
generated_in (check named) = None
generated_in (dump files) = None
generated_in (replay file) = None
generated_in (batch files) = None

-- the task is done by one worker, where no crew may be: stages never are
abbrev pub IsForOne : AnyTask → Settings → Type 0
IsForOne (plan files) settings = settings.workers ≡ 1
IsForOne (gen input) settings = settings.workers ≡ 1
IsForOne (stages named) settings = ⊥
IsForOne (check named) settings = settings.workers ≡ 1
IsForOne (dump files) settings = settings.workers ≡ 1
IsForOne (replay file) settings = settings.workers ≡ 1
IsForOne (batch files) settings = settings.workers ≡ 1

-- the words are a command that one worker does
abbrev pub AsksForOne : Option AnyCommand → Type 0
AsksForOne None = ⊥
AsksForOne (Some command) = IsForOne command.task command.settings

-- ---- how a run ends that searches nothing

-- the words are no command
abbrev pub IsUsage : Status → List ℕ → Type 0
IsUsage status text = (status ≡ Usage) × (text ≡ texts.usage_line)

-- the bytes are no catalogue, and the text says why
pub record IsCatalogRefused (bytes : List ℕ) (status : Status) (text : List ℕ) : Type 0 where
  pub refused : status ≡ CatalogRefused
  pub cause : List ℕ
  pub no_catalog : IsNoCatalog bytes cause
  pub line : text ≡ texts.catalog_refused cause

-- the bytes ask for no query over the catalogue, and the text says why
pub record IsQueryRefused (catalog : Catalog) (options : Options) (bytes : List ℕ) (status : Status) (text : List ℕ) :
    Type 0 where
  pub refused : status ≡ QueryRefused
  pub cause : List ℕ
  pub no_query : IsRefused catalog options bytes cause
  pub line : text ≡ texts.query_refused cause

-- a dump asks for no query: its catalogue is none, or its query is refused over it
pub data AsksNothing (dump : Dump) (status : Status) (text : List ℕ) : Type 0 where
  over_none : IsCatalogRefused dump.catalog status text → AsksNothing dump status text
  over_catalog : (catalog : Catalog) → SaysCatalog dump.catalog catalog
      → IsQueryRefused catalog dump.options.options dump.query status text → AsksNothing dump status text

-- the bytes are no dump, or one that asks for no query
pub data IsReplayRefused (bytes : List ℕ) (status : Status) (text : List ℕ) : Type 0 where
  no_dump : IsDumpRefused bytes status text → IsReplayRefused bytes status text
  no_query : (dump : Dump) → IsReadAs bytes (Ok dump) → AsksNothing dump status text
      → IsReplayRefused bytes status text

-- the count of the name's faults rose, and the text names it
pub record IsReadFault (name : List ℕ) (shelf : Reads) (status : Status) (text : List ℕ) : Type 0 where
  pub fault : status ≡ ReadFault
  pub rose : Rose (shelf.before name) (shelf.after name)
  pub line : text ≡ texts.read_fault name

-- a file couldn't be read, or its bytes are refused so
pub data FileStops (Refuses : List ℕ → Status → List ℕ → Type 0) (name : List ℕ) (shelf : Reads) (status : Status)
    (text : List ℕ) : Type 0 where
  unread : IsReadFault name shelf status text → FileStops Refuses name shelf status text
  unusable : (bytes : List ℕ) → AreTold (shelf.held name) bytes → Refuses bytes status text
      → FileStops Refuses name shelf status text

-- two files: that of a catalogue, or where it says a catalogue another one, which may be refused over it
pub data FilesStop (Refuses : Catalog → List ℕ → Status → List ℕ → Type 0) (catalog_name name : List ℕ) (shelf : Reads)
    (status : Status) (text : List ℕ) : Type 0 where
  by_catalog : FileStops IsCatalogRefused catalog_name shelf status text
      → FilesStop Refuses catalog_name name shelf status text
  by_file : (catalog : Catalog) → Offers (shelf.held catalog_name) catalog
      → FileStops (Refuses catalog) name shelf status text → FilesStop Refuses catalog_name name shelf status text

-- the files of a catalogue and of a query
abbrev pub QueryStops : FileNames → Options → Reads → Status → List ℕ → Type 0
QueryStops files options shelf status text =
    FilesStop (λ catalog. IsQueryRefused catalog options) files.catalog files.query shelf status text

-- the bytes are too long for the text of a plan, and the text says so
pub record IsPlanTooLong (bytes : List ℕ) (status : Status) (text : List ℕ) : Type 0 where
  pub refused : status ≡ PlanRefused
  pub long : IsTooLong bytes
  pub line : text ≡ texts.plan_refused (texts.plan_cause TooLong)

-- the files of a catalogue and of a query, or where they ask for a query that of a plan's text
pub data CheckStops (named : PlanNames) (options : Options) (shelf : Reads) (status : Status) (text : List ℕ) : Type 0
  where
    by_query : QueryStops named.files options shelf status text → CheckStops named options shelf status text
    by_plan : (query : Query) → FilesAsk named.files options shelf.held query
        → FileStops IsPlanTooLong named.plan shelf status text → CheckStops named options shelf status text

-- a task that searches nothing, by what is chosen for it; what is generated is always searched
abbrev pub TaskStops : AnyTask → Settings → Reads → Status → List ℕ → Type 0
TaskStops (plan files) settings shelf status text = QueryStops files settings.options shelf status text
TaskStops (gen input) settings shelf status text = ⊥
TaskStops (stages named) settings shelf status text = QueryStops named.files settings.options shelf status text
TaskStops (check named) settings shelf status text = CheckStops named settings.options shelf status text
TaskStops (dump files) settings shelf status text = QueryStops files settings.options shelf status text
TaskStops (replay file) settings shelf status text = FileStops IsReplayRefused file shelf status text
TaskStops (batch files) settings shelf status text =
    FilesStop (λ catalog. IsListRefused settings.capacity) files.catalog files.list shelf status text

-- a run by the command that its words are, where they are one
abbrev pub Stops : Option AnyCommand → Reads → Status → List ℕ → Type 0
Stops None shelf status text = IsUsage status text
Stops (Some command) shelf status text = TaskStops command.task command.settings shelf status text
