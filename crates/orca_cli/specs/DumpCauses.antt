-- Which causes the status of a dump or of a replay has.
use Rattle.std.specs.Prelude.{◌≡◌, ◌<◌, ◌≤◌, ℕ, List, Option, Some, Ok, length}
use Rattle.query_core.specs.declared.catalog.Catalog.{Catalog}
use Rattle.query_core.specs.declared.options.Options.{Options}
use Rattle.query_core.specs.declared.query.Query.{Query}
use Rattle.sql_reader.specs.Faults.{IsReading}
use Rattle.sql_reader.specs.declared.syntax.Select.{Select}
use Rattle.catalog_json.specs.Outcome.{most_bytes as most_catalog_bytes}
use Rattle.dump_replay.specs.Dumps.{IsReadAs}
use Rattle.dump_replay.specs.Named.{dumped_catalog}
use Rattle.dump_replay.specs.declared.dump.Dump.{Dump}
use Rattle.job_outcome.specs.Outcomes.{HasMoreEntries}
use Rattle.command_line.specs.Command.{FileNames, AnyTask, AnyCommand, dump, replay}
use Rattle.orca_cli.specs.Asked.{SaysCatalog, Asks, IsRefused}
use Rattle.orca_cli.specs.Answers.{Note, HasRoom}
use Rattle.orca_cli.specs.Causes.{Holds, HasNoFault}
use Rattle.orca_cli.specs.Dumps.{DumpAsks}
use Rattle.orca_cli.specs.Prepared.{Reads}
use Rattle.orca_cli.specs.Replays.{IsNoDump}
use Rattle.orca_cli.specs.Run.{IsRun, Puts, Ends}
use Rattle.orca_cli.specs.Status.{IsOneOf, concluded, overflowed, turned_down, served, undumped}
use Rattle.orca_cli.specs.declared.status.Status.{Status}
use Rattle.orca_cli.specs.declared.status.Status.TheVariants.{DumpRefused}

-- the task writes a dump, or reads one
pub data IsOfDumps (task : AnyTask) : Type 0 where
  writes_one : (files : FileNames) → task ≡ dump files → IsOfDumps task
  reads_one : (file : List ℕ) → task ≡ replay file → IsOfDumps task

-- the shelf tells a catalogue, and a text that asks for a query over it and is read so
pub record HoldsSelect (files : FileNames) (options : Options) (held : List ℕ → Option (List ℕ)) (select : Select)
    (catalog : Catalog) : Type 0 where
  pub text : List ℕ
  pub holds : Holds files.catalog files.query held catalog text
  pub reading : IsReading text select
  pub query : Query
  pub asks : Asks catalog options text query

-- the shelf tells bytes that say this dump
pub record HoldsDump (file : List ℕ) (held : List ℕ → Option (List ℕ)) (dump : Dump) : Type 0 where
  pub bytes : List ℕ
  pub told : held file ≡ Some bytes
  pub says : IsReadAs bytes (Ok dump)

-- the shelf tells bytes that are no dump
pub record HoldsNoDump (file : List ℕ) (held : List ℕ → Option (List ℕ)) : Type 0 where
  pub bytes : List ℕ
  pub told : held file ≡ Some bytes
  pub cause : List ℕ
  pub no_dump : IsNoDump bytes cause

-- the dump's catalogue is one, and its query is refused over it
pub record IsRefusedIn (dump : Dump) : Type 0 where
  pub catalog : Catalog
  pub says : SaysCatalog dump.catalog catalog
  pub cause : List ℕ
  pub refused : IsRefused catalog dump.options.options dump.query cause

-- ---- what follows from how a run ends

pub record HasDumpCauses (named : Option AnyCommand) (shelf : Reads) (sink : Puts) (status : Status) : Type 0 where
  -- a dump is refused only by what writes or reads one
  pub refused : status ≡ DumpRefused → (command : AnyCommand) × (named ≡ Some command) × IsOfDumps command.task
  -- a query is dumped, or the text of its catalogue is too long
  pub dumps : (command : AnyCommand) (files : FileNames) (select : Select) (catalog : Catalog) → named ≡ Some command
      → command.task ≡ dump files → HoldsSelect files command.settings.options shelf.held select catalog
      → length (dumped_catalog select catalog) ≤ most_catalog_bytes → HasNoFault command.task shelf sink
      → IsOneOf served status
  pub refuses_long : (command : AnyCommand) (files : FileNames) (select : Select) (catalog : Catalog)
      → named ≡ Some command → command.task ≡ dump files
      → HoldsSelect files command.settings.options shelf.held select catalog
      → most_catalog_bytes < length (dumped_catalog select catalog) → HasNoFault command.task shelf sink
      → IsOneOf undumped status
  -- the query of a dump is answered where it has room, and one with more entries than the dump's capacity is told so
  pub replays : (command : AnyCommand) (file : List ℕ) (of_file : Dump) (query : Query) → named ≡ Some command
      → command.task ≡ replay file → HoldsDump file shelf.held of_file → DumpAsks of_file query
      → HasRoom query of_file.options.capacity → HasNoFault command.task shelf sink → IsOneOf concluded status
  pub overflows : (command : AnyCommand) (file : List ℕ) (of_file : Dump) (query : Query) → named ≡ Some command
      → command.task ≡ replay file → HoldsDump file shelf.held of_file → DumpAsks of_file query
      → HasMoreEntries query of_file.options.capacity → HasNoFault command.task shelf sink
      → IsOneOf overflowed status
  -- a query with a cause of refusal is refused, and so are bytes that are no dump
  pub refuses_query : (command : AnyCommand) (file : List ℕ) (of_file : Dump) → named ≡ Some command
      → command.task ≡ replay file → HoldsDump file shelf.held of_file → IsRefusedIn of_file
      → HasNoFault command.task shelf sink → IsOneOf turned_down status
  pub refuses_bytes : (command : AnyCommand) (file : List ℕ) → named ≡ Some command → command.task ≡ replay file
      → HoldsNoDump file shelf.held → HasNoFault command.task shelf sink → IsOneOf undumped status

-- all of it follows from the one record of how the run ends
abbrev pub EndsHaveDumpCauses : Type 0
EndsHaveDumpCauses = (named : Option AnyCommand) (shelf : Reads) (empty note : Note) (sink : Puts) (status : Status)
    → Ends (IsRun named shelf empty note) sink status → HasDumpCauses named shelf sink status
