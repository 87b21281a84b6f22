-- What is printed of a dump, and how its replay ends.
use Rattle.std.specs.Prelude.{◌≡◌, ◌<◌, ◌≤◌, ℕ, List, Option, None, false, Ok, codes, length}
use Rattle.query_core.specs.declared.catalog.Catalog.{Catalog}
use Rattle.query_core.specs.declared.query.Query.{Query}
use Rattle.sql_reader.specs.Faults.{IsReading}
use Rattle.sql_reader.specs.declared.syntax.Select.{Select}
use Rattle.catalog_json.specs.Outcome.{most_bytes as most_catalog_bytes}
use Rattle.dump_replay.specs.Dumps.{IsDumpOf, IsReadAs}
use Rattle.dump_replay.specs.Named.{dumped_catalog}
use Rattle.dump_replay.specs.declared.dump.Dump.{Dump}
use Rattle.dump_replay.specs.declared.dump.DumpOptions.{DumpOptions}
use Rattle.command_line.specs.Command.{FileNames}
use Rattle.command_line.specs.declared.settings.Settings.{Settings}
use Rattle.orca_cli.specs.Asked.{SaysCatalog, Asks}
use Rattle.orca_cli.specs.Answers.{Note, IsSearchEnd}
use Rattle.orca_cli.specs.Prepared.{AreTold, Offers}
use Rattle.orca_cli.specs.Sections.{Tells}
use Rattle.orca_cli.specs.Texts as texts
use Rattle.orca_cli.specs.declared.status.Status.{Status}
use Rattle.orca_cli.specs.declared.status.Status.TheVariants.{Planned, DumpRefused}

-- ---- what is chosen

-- what a command chooses for its dump: all but the workers
abbrev pub dump_options : Settings → DumpOptions
dump_options settings = record {
  capacity = settings.capacity;
  options = settings.options;
  memo = settings.memo;
  trace = settings.trace;
}

-- what is chosen for a replay: what the dump says, and so many workers, without lines by worker
abbrev pub replay_settings : DumpOptions → (workers : ℕ) → Settings
replay_settings options workers = record {
  workers = workers;
  capacity = options.capacity;
  options = options.options;
  memo = options.memo;
  trace = options.trace;
  by_worker = false;
}

-- ---- dumps

-- the dump of a query, or the line that says that its catalogue is too long
pub data IsDumpEnd (select : Select) (catalog : Catalog) (query : List ℕ) (options : DumpOptions) (status : Status)
    (text : List ℕ) : Type 0 where
  written : status ≡ Planned → length (dumped_catalog select catalog) ≤ most_catalog_bytes
      → IsDumpOf select catalog query options text → IsDumpEnd select catalog query options status text
  too_long : status ≡ DumpRefused → most_catalog_bytes < length (dumped_catalog select catalog)
      → text ≡ texts.dump_refused (codes "too long") → IsDumpEnd select catalog query options status text

-- the status and the text of a dump over two files, whose query isn't refused
pub record FilesDump (files : FileNames) (settings : Settings) (held : List ℕ → Option (List ℕ)) (status : Status)
    (text : List ℕ) : Type 0 where
  pub catalog : Catalog
  pub offers : Offers (held files.catalog) catalog
  pub asked : List ℕ
  pub told : AreTold (held files.query) asked
  pub select : Select
  pub reading : IsReading asked select
  pub query : Query
  pub asks : Asks catalog settings.options asked query
  pub ends : IsDumpEnd select catalog asked (dump_options settings) status text

-- ---- replays

-- the bytes under a name say this dump
pub record OffersDump (held : Option (List ℕ)) (dump : Dump) : Type 0 where
  pub bytes : List ℕ
  pub told : AreTold held bytes
  pub says : IsReadAs bytes (Ok dump)

-- a dump asks for this query
pub record DumpAsks (dump : Dump) (query : Query) : Type 0 where
  pub catalog : Catalog
  pub says : SaysCatalog dump.catalog catalog
  pub asks : Asks catalog dump.options.options dump.query query

-- the status, the text and the note of the replay of a dump that asks for a query
pub record FileReplay (file : List ℕ) (workers : ℕ) (held : List ℕ → Option (List ℕ)) (note : Note) (status : Status)
    (text : List ℕ) : Type 0 where
  pub dump : Dump
  pub offers : OffersDump (held file) dump
  pub query : Query
  pub asks : DumpAsks dump query
  pub ends : IsSearchEnd (Tells None (replay_settings dump.options workers) query)
      (replay_settings dump.options workers)
      query note status text
