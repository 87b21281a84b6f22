-- What follows from how dumps and replays end.
use Rattle.std.specs.Prelude.{◌≡◌, ◌≢◌, ℕ, List, Option, Some, Ok}
use Rattle.dump_replay.specs.Dumps.{IsReadAs}
use Rattle.dump_replay.specs.declared.dump.Dump.{Dump}
use Rattle.command_line.specs.Command.{FileNames, dump, replay}
use Rattle.command_line.specs.declared.settings.Settings.{Settings}
use Rattle.orca_cli.specs.Answers.{Note}
use Rattle.orca_cli.specs.Dumps.{dump_options, replay_settings}
use Rattle.orca_cli.specs.Laws.{Outcome}
use Rattle.orca_cli.specs.Prepared.{reads}
use Rattle.orca_cli.specs.Run.{IsRun}
use Rattle.orca_cli.specs.declared.status.Status.{Status}
use Rattle.orca_cli.specs.declared.status.Status.TheVariants.{Planned, ReadFault}

-- a dump of two files that hold these bytes is written so, whatever its counts of faults are
pub record DumpOutcome (files : FileNames) (settings : Settings) (held : List ℕ → Option (List ℕ))
    (catalog query : List ℕ) (text : List ℕ) : Type 0 where
  pub before : List ℕ → ℕ
  pub after : List ℕ → ℕ
  pub empty : Note
  pub note : Note
  pub catalog_told : held files.catalog ≡ Some catalog
  pub query_told : held files.query ≡ Some query
  pub ends : IsRun (Some (record { task = dump files; settings = settings })) (reads held before after) empty note
      Planned
      text

-- a replay of a file that holds these bytes ends so, whatever its counts of faults are
pub record ReplayOutcome (file : List ℕ) (settings : Settings) (held : List ℕ → Option (List ℕ)) (bytes : List ℕ)
    (status : Status) (text : List ℕ) : Type 0 where
  pub before : List ℕ → ℕ
  pub after : List ℕ → ℕ
  pub empty : Note
  pub note : Note
  pub told : held file ≡ Some bytes
  pub ends : IsRun (Some (record { task = replay file; settings = settings })) (reads held before after) empty note
      status
      text
  pub were_read : status ≢ ReadFault

-- the replay of bytes that say a dump ends as a plan of its catalogue and its query, with what the dump chooses, by
-- however many workers each
abbrev pub ReplaysAsPlanned : Type 0
ReplaysAsPlanned = (file : List ℕ) (files : FileNames) (settings : Settings) (workers : ℕ)
    (held told : List ℕ → Option (List ℕ)) (bytes : List ℕ) (of_bytes : Dump) (first second : Status)
    (text other : List ℕ)
    → IsReadAs bytes (Ok of_bytes) → ReplayOutcome file settings held bytes first text
    → Outcome files (replay_settings of_bytes.options workers) told of_bytes.catalog of_bytes.query second other
    → (first ≡ second) × (text ≡ other)

-- two replays of the same bytes end alike, by however many workers each
abbrev pub OneReplay : Type 0
OneReplay = (file other_file : List ℕ) (settings others : Settings) (held told : List ℕ → Option (List ℕ))
    (bytes : List ℕ) (first second : Status) (text other : List ℕ) → ReplayOutcome file settings held bytes first text
    → ReplayOutcome other_file others told bytes second other → (first ≡ second) × (text ≡ other)

-- the replay of a dump that was written ends as a plan of the dumped bytes, with what was chosen for the dump, by
-- however many workers each
abbrev pub DumpsReplay : Type 0
DumpsReplay = (files others : FileNames) (file : List ℕ) (settings later : Settings) (workers : ℕ)
    (held told known : List ℕ → Option (List ℕ)) (catalog query dumped : List ℕ) (first second : Status)
    (text other : List ℕ)
    → DumpOutcome files settings held catalog query dumped → ReplayOutcome file later told dumped first text
    → Outcome others (replay_settings (dump_options settings) workers) known catalog query second other
    → (first ≡ second) × (text ≡ other)
