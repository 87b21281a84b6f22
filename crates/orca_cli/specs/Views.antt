-- What clauses see of the program's values.
use Rattle.std.specs.Prelude.{◌≡◌, ◌≤◌, ℕ, ⊤, List, Option, Some, Ok, Vec, flat_map, length, map}
use Rattle.std.specs.Borrow.{Bor}
use Rattle.std.specs.declared.alloc.Global.{Global}
use Rattle.query_core.specs.Catalog.{IsCatalog}
use Rattle.query_core.specs.declared.catalog.Catalog.{Catalog}
use Rattle.query_core.specs.declared.options.Options.{Options}
use Rattle.query_core.specs.declared.query.Query.{Query}
use Rattle.sql_reader.specs.Faults.{IsReading}
use Rattle.request_props.specs.Numbered.{IsProps}
use Rattle.dump_replay.specs.Dumps.{AreDumpOptions, IsReadAs}
use Rattle.dump_replay.specs.declared.dump.Dump.{Dump}
use Rattle.command_line.specs.Command.{FileNames, StageNames, PlanNames, ListNames, AnyTask, AnyCommand}
use Rattle.command_line.specs.Command.{stages, check, dump, replay, batch}
use Rattle.command_line.specs.HeldStages.{stages_read}
use Rattle.command_line.specs.Views.{command_read}
use Rattle.orca_cli.specs.Asked.{Asks}
use Rattle.orca_cli.specs.Batches.{LineEnd}
use Rattle.orca_cli.specs.Dumps.{DumpAsks}
use Rattle.orca_cli.specs.Prepared.{AreTold, Offers, FilesAsk, IsAskedBy}
use Rattle.orca_cli.specs.declared.asked.Asked.{Asked}
use Rattle.orca_cli.specs.declared.asked.Checked.{Checked}
use Rattle.orca_cli.specs.declared.asked.Dumped.{Dumped}
use Rattle.orca_cli.specs.declared.asked.Replayed.{Replayed}
use Rattle.orca_cli.specs.declared.asked.InStages.{InStages}
use Rattle.orca_cli.specs.declared.asked.Listed.{Listed}
use Rattle.orca_cli.specs.declared.asked.Wanted.{Wanted}
use Rattle.orca_cli.specs.declared.asked.Work.{Work}
use Rattle.orca_cli.specs.declared.asked.Work.TheVariants as works
use Rattle.orca_cli.specs.declared.ending.End.{End}
use Rattle.orca_cli.specs.declared.ending.End.TheVariants as ends
use Rattle.orca_cli.specs.declared.ending.Ending.{Ending}
use Rattle.orca_cli.specs.declared.status.Status.{Status}

-- the bytes of texts, one behind the other
abbrev pub bytes_of_texts : List (Vec ℕ Global) → List ℕ
bytes_of_texts texts = flat_map (λ (text : Vec ℕ Global). text.items) texts

-- the lines behind references to them
abbrev pub lines_read : List (Bor (List ℕ)) → List (List ℕ)
lines_read lines = map (λ line. line.now) lines

-- the text of an ending
abbrev pub text_of : Ending → List ℕ
text_of ending = bytes_of_texts ending.texts.items

-- the ending has this status and this text
pub record EndsAs (ending : Ending) (ending_status : Status) (ending_text : List ℕ) : Type 0 where
  pub status : ending.status ≡ ending_status
  pub text : text_of ending ≡ ending_text

-- an ending as the end of a line
abbrev pub line_end : Ending → LineEnd
line_end ending = record { status = ending.status; text = text_of ending }

-- the end has a status and a text of which this holds, unless memory ran out
abbrev pub EndsWith : (Status → List ℕ → Type 0) → End → Type 0
EndsWith IsText (ends.Told ending) = IsText ending.status (text_of ending)
EndsWith IsText ends.Memory = ⊤

-- the end has this status and this text
abbrev pub IsEndOf : End → Status → List ℕ → Type 0
IsEndOf (ends.Told ending) status text = EndsAs ending status text
IsEndOf ends.Memory status text = ⊥

-- a query is asked for, and its props are found
pub record IsAsked (IsQuery : Query → Type 0) (asked : Asked) : Type 0 where
  pub query_is : IsQuery asked.query
  pub props_are : IsProps asked.query asked.props

-- a catalogue and a list are those of two files
pub record AreListed (files : ListNames) (held : List ℕ → Option (List ℕ)) (listed : Listed) : Type 0 where
  pub offers : Offers (held files.catalog) listed.catalog
  pub told : AreTold (held files.list) listed.list.items

-- a query is the one for which two files ask, and the stages are those of the command
pub record AreStaged (named : StageNames) (options : Options) (held : List ℕ → Option (List ℕ)) (staged : InStages) :
    Type 0 where
  pub asks : FilesAsk named.files options held staged.asked.query
  pub stages_are : stages_read staged.stages ≡ named.stages

-- a query is the one for which two files ask, and a text that of a third one
pub record AreChecked (named : PlanNames) (options : Options) (held : List ℕ → Option (List ℕ)) (checked : Checked) :
    Type 0 where
  pub asks : FilesAsk named.files options held checked.asked.query
  pub told : AreTold (held named.plan) checked.plan.items

-- the text is read so over this catalogue, and isn't refused
pub record IsDumpedOf (catalog : Catalog) (options : Options) (text : List ℕ) (dumped : Dumped) : Type 0 where
  pub over : dumped.catalog ≡ catalog
  pub of_text : dumped.query.items ≡ text
  pub reading : IsReading text dumped.select
  pub query : Query
  pub asks : Asks catalog options text query

-- so is the text under a name
pub record IsDumpedOver (catalog : Catalog) (options : Options) (held : Option (List ℕ)) (dumped : Dumped) : Type 0
  where
    pub text : List ℕ
    pub told : AreTold held text
    pub is_dumped : IsDumpedOf catalog options text dumped

-- so are two files
pub record AreDumped (files : FileNames) (options : Options) (held : List ℕ → Option (List ℕ)) (dumped : Dumped) :
    Type 0 where
  pub catalog : Catalog
  pub offers : Offers (held files.catalog) catalog
  pub is_dumped : IsDumpedOver catalog options (held files.query) dumped

-- the query is the one for which the dump asks that the bytes say, with what the dump chooses
pub record IsReplayOf (bytes : List ℕ) (replayed : Replayed) : Type 0 where
  pub dump : Dump
  pub says : IsReadAs bytes (Ok dump)
  pub chosen : replayed.options ≡ dump.options
  pub asks : DumpAsks dump replayed.asked.query

-- the bytes are those under a name
pub record IsReplayed (held : Option (List ℕ)) (replayed : Replayed) : Type 0 where
  pub bytes : List ℕ
  pub told : AreTold held bytes
  pub is_replay : IsReplayOf bytes replayed

-- the task asks for this work: the search of a query, a query planned in stages, the check of a text, the dump of a
-- query, the search of a dump's query, or the search of each line of a list
abbrev pub AsksFor : AnyTask → Options → (List ℕ → Option (List ℕ)) → Work → Type 0
AsksFor task options held (works.Query asked) = IsAskedBy task options held asked.query
AsksFor task options held (works.Stages staged) =
    (named : StageNames) × (task ≡ stages named) × AreStaged named options held staged
AsksFor task options held (works.Check checked) =
    (named : PlanNames) × (task ≡ check named) × AreChecked named options held checked
AsksFor task options held (works.Dump dumped) =
    (files : FileNames) × (task ≡ dump files) × AreDumped files options held dumped
AsksFor task options held (works.Replay replayed) =
    (file : List ℕ) × (task ≡ replay file) × IsReplayed (held file) replayed
AsksFor task options held (works.List listed) =
    (files : ListNames) × (task ≡ batch files) × AreListed files held listed

-- the catalogue is one, and the list isn't too long
pub record IsListed (listed : Listed) : Type 0 where
  pub catalogue : IsCatalog listed.catalog
  pub bounded : length listed.list.items ≤ 1048576

-- the catalogue is one, and the query's bytes are read as the select
pub record IsDumpable (dumped : Dumped) : Type 0 where
  pub catalogue : IsCatalog dumped.catalog
  pub reading : IsReading dumped.query.items dumped.select

-- the query's props are found, and a command may choose what the dump does
pub record IsReplayable (replayed : Replayed) : Type 0 where
  pub props : IsProps replayed.asked.query replayed.asked.props
  pub allowed : AreDumpOptions replayed.options

-- the work can be done
abbrev pub CanBeDone : Work → Type 0
CanBeDone (works.Query asked) = IsProps asked.query asked.props
CanBeDone (works.Stages staged) = IsProps staged.asked.query staged.asked.props
CanBeDone (works.Check checked) = IsProps checked.asked.query checked.asked.props
CanBeDone (works.Dump dumped) = IsDumpable dumped
CanBeDone (works.Replay replayed) = IsReplayable replayed
CanBeDone (works.List listed) = IsListed listed

-- one worker does the work, where no crew may be
abbrev pub IsWorkForOne : Work → ℕ → Type 0
IsWorkForOne (works.Query asked) workers = workers ≡ 1
IsWorkForOne (works.Stages staged) workers = ⊥
IsWorkForOne (works.Check checked) workers = workers ≡ 1
IsWorkForOne (works.Dump dumped) workers = workers ≡ 1
IsWorkForOne (works.Replay replayed) workers = workers ≡ 1
IsWorkForOne (works.List listed) workers = workers ≡ 1

-- the command is the one that the words are, and it asks for the work
pub record IsWanted (named : Option AnyCommand) (held : List ℕ → Option (List ℕ)) (wanted : Wanted) : Type 0 where
  pub named_is : named ≡ Some (command_read wanted.command)
  pub asks_for : AsksFor (command_read wanted.command).task wanted.command.settings.options held wanted.work
