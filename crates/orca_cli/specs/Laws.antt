-- What follows from how commands are read, and how runs end.
use Rattle.std.specs.Prelude.{◌≡◌, ◌≢◌, ◌⊎◌, ◌++◌, ℕ, Bool, true, false, List, [], Option, Some}
use Rattle.query_core.specs.declared.catalog.Catalog.{Catalog}
use Rattle.query_core.specs.declared.options.Options.{Options}
use Rattle.query_core.specs.declared.query.Query.{Query}
use Rattle.query_stage.specs.declared.stage.Stage.{Stage}
use Rattle.stage_plan.specs.Stages.{query_in}
use Rattle.command_line.specs.Command.{FileNames, StageNames, PlanNames, ListNames, plan, gen, stages, check, batch}
use Rattle.command_line.specs.declared.settings.Settings.{Settings}
use Rattle.command_line.specs.declared.command.GenInput.{GenInput}
use Rattle.orca_cli.specs.Answers.{Note}
use Rattle.orca_cli.specs.Asked.{SaysCatalog, Asks}
use Rattle.orca_cli.specs.Batches.{for_a_line, LineEnd, IsLineEnd}
use Rattle.orca_cli.specs.Prepared.{Reads, reads}
use Rattle.orca_cli.specs.Run.{IsRun}
use Rattle.orca_cli.specs.Sections.{IsByWorker}
use Rattle.orca_cli.specs.Status.{IsOneOf, by_files}
use Rattle.orca_cli.specs.declared.status.Status.{Status}
use Rattle.orca_cli.specs.declared.status.Status.TheVariants.{ReadFault}

-- a run over files that hold these bytes ends so, whatever its counts of faults are
pub record Outcome (files : FileNames) (settings : Settings) (held : List ℕ → Option (List ℕ)) (catalog query : List ℕ)
    (status : Status) (text : List ℕ) : Type 0 where
  pub before : List ℕ → ℕ
  pub after : List ℕ → ℕ
  pub empty : Note
  pub note : Note
  pub catalog_told : held files.catalog ≡ Some catalog
  pub query_told : held files.query ≡ Some query
  pub ends : IsRun (Some (record { task = plan files; settings = settings })) (reads held before after) empty note
      status
      text
  pub decided : IsOneOf by_files status

-- a run over what is generated ends so
pub record GenOutcome (input : GenInput) (settings : Settings) (status : Status) (text : List ℕ) : Type 0 where
  pub shelf : Reads
  pub empty : Note
  pub note : Note
  pub ends : IsRun (Some (record { task = gen input; settings = settings })) shelf empty note status text

-- a run in stages over files that hold these bytes ends so, whatever its counts of faults are
pub record StagesOutcome (named : StageNames) (settings : Settings) (held : List ℕ → Option (List ℕ))
    (catalog query : List ℕ) (status : Status) (text : List ℕ) : Type 0 where
  pub before : List ℕ → ℕ
  pub after : List ℕ → ℕ
  pub empty : Note
  pub note : Note
  pub catalog_told : held named.files.catalog ≡ Some catalog
  pub query_told : held named.files.query ≡ Some query
  pub ends : IsRun (Some (record { task = stages named; settings = settings })) (reads held before after) empty note
      status text
  pub were_read : status ≢ ReadFault

-- a batch over files that hold these bytes ends so, whatever its counts of faults are
pub record BatchOutcome (files : ListNames) (settings : Settings) (held : List ℕ → Option (List ℕ))
    (catalog list : List ℕ) (status : Status) (text : List ℕ) : Type 0 where
  pub before : List ℕ → ℕ
  pub after : List ℕ → ℕ
  pub empty : Note
  pub note : Note
  pub catalog_told : held files.catalog ≡ Some catalog
  pub list_told : held files.list ≡ Some list
  pub ends : IsRun (Some (record { task = batch files; settings = settings })) (reads held before after) empty note
      status
      text
  pub were_read : status ≢ ReadFault

-- a check over files that hold these bytes ends so, whatever its counts of faults are
pub record CheckOutcome (named : PlanNames) (settings : Settings) (held : List ℕ → Option (List ℕ))
    (catalog query plan : List ℕ) (status : Status) (text : List ℕ) : Type 0 where
  pub before : List ℕ → ℕ
  pub after : List ℕ → ℕ
  pub empty : Note
  pub note : Note
  pub catalog_told : held named.files.catalog ≡ Some catalog
  pub query_told : held named.files.query ≡ Some query
  pub plan_told : held named.plan ≡ Some plan
  pub ends : IsRun (Some (record { task = check named; settings = settings })) (reads held before after) empty note
      status
      text
  pub were_read : status ≢ ReadFault

-- the same settings, with so many workers
abbrev pub by : ℕ → Settings → Settings
by workers settings = record settings { workers = workers }

-- the lines by worker: none where they aren't asked for; and else none, or those of one query, each with a number
-- below that of the workers
abbrev pub AreLines : Bool → (workers more : ℕ) → List ℕ → List ℕ → Type 0
AreLines false workers more lines others = (lines ≡ []) × (others ≡ [])
AreLines true workers more lines others =
    ((lines ≡ []) × (others ≡ [])) ⊎ ((query : Query) × IsByWorker query workers lines × IsByWorker query more others)

-- two texts that are one up to the lines by worker
pub record SameTexts (settings : Settings) (workers more : ℕ) (text other : List ℕ) : Type 0 where
  pub front : List ℕ
  pub lines : List ℕ
  pub others : List ℕ
  pub whole : text ≡ front ++ lines
  pub other_whole : other ≡ front ++ others
  pub are_lines : AreLines settings.by_worker workers more lines others

-- two such runs have one status, and one text up to the lines by worker
pub record Same (settings : Settings) (workers more : ℕ) (first second : Status) (text other : List ℕ) : Type 0 where
  pub status : first ≡ second
  pub texts : SameTexts settings workers more text other

-- the status and the text are a function of the bytes, and of what the command chooses but for the workers; only the
-- numbers in the lines by worker may differ
abbrev pub OneOutcome : Type 0
OneOutcome = (files others : FileNames) (settings : Settings) (workers more : ℕ) (held told : List ℕ → Option (List ℕ))
    (catalog query : List ℕ) (first second : Status) (text other : List ℕ)
    → Outcome files (by workers settings) held catalog query first text
    → Outcome others (by more settings) told catalog query second other
    → Same settings workers more first second text other

-- those of `gen` are a function of the input, and of what the command chooses but for the workers
abbrev pub OneGenerated : Type 0
OneGenerated = (input : GenInput) (settings : Settings) (workers more : ℕ) (first second : Status) (text other : List ℕ)
    → GenOutcome input (by workers settings) first text → GenOutcome input (by more settings) second other
    → (first ≡ second) × (text ≡ other)

-- those of stages are a function of the bytes, the stages, and of what the command chooses but for the workers
abbrev pub OneStages : Type 0
OneStages = (named others : StageNames) (settings : Settings) (workers more : ℕ) (held told : List ℕ → Option (List ℕ))
    (catalog query : List ℕ) (first second : Status) (text other : List ℕ) → others.stages ≡ named.stages
    → StagesOutcome named (by workers settings) held catalog query first text
    → StagesOutcome others (by more settings) told catalog query second other → (first ≡ second) × (text ≡ other)

-- with the rules of a stage off a text asks for the query in that stage, so it is bound once for all stages
abbrev pub BindsOnce : Type 0
BindsOnce = (catalog : Catalog) (options : Options) (text : List ℕ) (query : Query) (stage : Stage)
    → Asks catalog options text query → Asks catalog (record options { off = stage.off }) text (query_in query stage)

-- those of a batch are a function of the bytes, and of what the command chooses but for the workers
abbrev pub OneBatch : Type 0
OneBatch = (files others : ListNames) (settings : Settings) (workers more : ℕ) (held told : List ℕ → Option (List ℕ))
    (catalog list : List ℕ) (first second : Status) (text other : List ℕ)
    → BatchOutcome files (by workers settings) held catalog list first text
    → BatchOutcome others (by more settings) told catalog list second other → (first ≡ second) × (text ≡ other)

-- those of a check are a function of the bytes, and of what the command chooses
abbrev pub OneCheck : Type 0
OneCheck = (named others : PlanNames) (settings : Settings) (held told : List ℕ → Option (List ℕ))
    (catalog query plan : List ℕ) (first second : Status) (text other : List ℕ)
    → CheckOutcome named settings held catalog query plan first text
    → CheckOutcome others settings told catalog query plan second other → (first ≡ second) × (text ≡ other)

-- a line of a batch ends with the status and the text of a plan over the same catalogue and this line, by however many
-- workers
abbrev pub LinesAsPlanned : Type 0
LinesAsPlanned = (files : FileNames) (settings : Settings) (workers : ℕ) (held : List ℕ → Option (List ℕ))
    (bytes line : List ℕ) (catalog : Catalog) (end : LineEnd) (status : Status) (text : List ℕ)
    → SaysCatalog bytes catalog → IsLineEnd catalog settings line end
    → Outcome files (by workers (for_a_line settings)) held bytes line status text
    → (end.status ≡ status) × (end.text ≡ text)
