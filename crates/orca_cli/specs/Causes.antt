-- When a run is sure to be answered, and which causes its status has.
use Rattle.std.specs.Prelude.{◌≡◌, ◌≢◌, ◌⊎◌, ℕ, List, Option, None, Some, map}
use Rattle.std.specs.List.{All}
use Rattle.orca_base.specs.Causes.{Rose}
use Rattle.query_core.specs.declared.catalog.Catalog.{Catalog}
use Rattle.query_core.specs.declared.options.Options.{Options}
use Rattle.query_core.specs.declared.query.Query.{Query}
use Rattle.job_outcome.specs.Outcomes.{HasMoreEntries}
use Rattle.text_check.specs.Outcome.{IsGoodText, HasFault}
use Rattle.text_check.specs.declared.text_fault.TextFault.{TextFault}
use Rattle.text_check.specs.declared.text_fault.TextFault.TheVariants as faults
use Rattle.query_stage.specs.declared.stage.Stage.{Stage}
use Rattle.stage_plan.specs.Stages.{query_in}
use Rattle.command_line.specs.Command.{FileNames, StageNames, PlanNames, ListNames, AnyTask, AnyCommand}
use Rattle.command_line.specs.Command.{plan, gen, stages, check, dump, replay, batch}
use Rattle.command_line.specs.HeldStages.{stage_read}
use Rattle.command_line.specs.Stages.{AnyStage}
use Rattle.command_line.specs.declared.command.GenInput.{GenInput}
use Rattle.orca_cli.specs.Asked.{SaysCatalog, Asks, IsRefused}
use Rattle.orca_cli.specs.Answers.{Note, HasRoom}
use Rattle.orca_cli.specs.Generated.{IsGenerated}
use Rattle.orca_cli.specs.Lists.{list_cause}
use Rattle.orca_cli.specs.Prepared.{Reads}
use Rattle.orca_cli.specs.Run.{IsRun, Puts, Ends}
use Rattle.orca_cli.specs.Status.{IsOneOf, concluded, overflowed, turned_down, finished, served, list_refused}
use Rattle.orca_cli.specs.Status.{plan_turned_down}
use Rattle.orca_cli.specs.declared.status.Status.{Status}
use Rattle.orca_cli.specs.declared.status.Status.TheVariants.{Usage, ReadFault, WriteFault, PlanRefused, BatchRefused}

-- ---- what a shelf surely holds

-- the shelf tells bytes under one name that say this catalogue, and this text under another
pub record Holds (catalog_name name : List ℕ) (held : List ℕ → Option (List ℕ)) (catalog : Catalog) (text : List ℕ) :
    Type 0 where
  pub bytes : List ℕ
  pub bytes_told : held catalog_name ≡ Some bytes
  pub says : SaysCatalog bytes catalog
  pub text_told : held name ≡ Some text

-- the shelf tells a catalogue, and a text that asks for this query over it
pub record HoldsQuery (files : FileNames) (options : Options) (held : List ℕ → Option (List ℕ)) (query : Query) :
    Type 0 where
  pub catalog : Catalog
  pub text : List ℕ
  pub holds : Holds files.catalog files.query held catalog text
  pub asks : Asks catalog options text query

-- the shelf tells a catalogue, and a text that is refused over it
pub record HoldsRefused (files : FileNames) (options : Options) (held : List ℕ → Option (List ℕ)) : Type 0 where
  pub catalog : Catalog
  pub text : List ℕ
  pub holds : Holds files.catalog files.query held catalog text
  pub cause : List ℕ
  pub refused : IsRefused catalog options text cause

-- the shelf tells a catalogue, and a list that has this cause of refusal, or none
pub record HoldsList (files : ListNames) (capacity : ℕ) (held : List ℕ → Option (List ℕ))
    (cause : Option (List ℕ)) : Type 0 where
  pub catalog : Catalog
  pub list : List ℕ
  pub holds : Holds files.catalog files.list held catalog list
  pub is_cause : list_cause capacity list ≡ cause

-- the shelf tells a query, and this text under the name of a plan
pub record HoldsPlan (named : PlanNames) (options : Options) (held : List ℕ → Option (List ℕ)) (query : Query)
    (plan : List ℕ) : Type 0 where
  pub holds_query : HoldsQuery named.files options held query
  pub plan_told : held named.plan ≡ Some plan

-- the task surely asks for this query
abbrev pub SurelyAsks : AnyTask → Options → (List ℕ → Option (List ℕ)) → Query → Type 0
SurelyAsks (plan files) options held query = HoldsQuery files options held query
SurelyAsks (gen input) options held query = IsGenerated input options query
SurelyAsks (stages named) options held query = ⊥
SurelyAsks (check named) options held query = ⊥
SurelyAsks (dump files) options held query = ⊥
SurelyAsks (replay file) options held query = ⊥
SurelyAsks (batch files) options held query = ⊥

-- the files of a catalogue and of a query that the task names, if it does
abbrev pub query_files : AnyTask → Option FileNames
query_files (plan files) = Some files
query_files (gen input) = None
query_files (stages named) = Some named.files
query_files (check named) = Some named.files
query_files (dump files) = Some files
query_files (replay file) = None
query_files (batch files) = None

-- the count of one of two names rose
abbrev pub OneRose : Reads → List ℕ → List ℕ → Type 0
OneRose shelf first second = Rose (shelf.before first) (shelf.after first)
    ⊎ Rose (shelf.before second) (shelf.after second)

-- the count of a file of the task rose
abbrev pub ReadRose : AnyTask → Reads → Type 0
ReadRose (plan files) shelf = OneRose shelf files.catalog files.query
ReadRose (gen input) shelf = ⊥
ReadRose (stages named) shelf = OneRose shelf named.files.catalog named.files.query
ReadRose (check named) shelf =
    OneRose shelf named.files.catalog named.files.query ⊎ Rose (shelf.before named.plan) (shelf.after named.plan)
ReadRose (dump files) shelf = OneRose shelf files.catalog files.query
ReadRose (replay file) shelf = Rose (shelf.before file) (shelf.after file)
ReadRose (batch files) shelf = OneRose shelf files.catalog files.list

-- no count of faults rose, of no file of the task and not the sink's
pub record HasNoFault (task : AnyTask) (shelf : Reads) (sink : Puts) : Type 0 where
  pub reads : ReadRose task shelf → ⊥
  pub writes : Rose sink.before sink.after → ⊥

-- ---- completeness

-- a run without faults of a command that asks for a query with room is answered
abbrev pub Completes : Option AnyCommand → Reads → Puts → Status → Type 0
Completes named shelf sink status =
    (command : AnyCommand) (query : Query) → named ≡ Some command
    → SurelyAsks command.task command.settings.options shelf.held query → HasRoom query command.settings.capacity
    → HasNoFault command.task shelf sink → IsOneOf concluded status

-- the query has room in each of these stages
abbrev pub HaveRoom : Query → (capacity : ℕ) → List AnyStage → Type 0
HaveRoom query capacity asked = (some : List Stage) → map stage_read some ≡ asked
    → All (λ stage. HasRoom (query_in query stage) capacity) some

-- ---- what follows from how a run ends

pub record HasCauses (named : Option AnyCommand) (shelf : Reads) (sink : Puts) (status : Status) : Type 0 where
  pub completes : Completes named shelf sink status
  -- what an answer other than that of a search comes from
  pub usage : status ≡ Usage → named ≡ None
  pub read_fault : status ≡ ReadFault → (command : AnyCommand) × (named ≡ Some command) × ReadRose command.task shelf
  pub write_fault : status ≡ WriteFault → Rose sink.before sink.after
  -- a query with more entries than the capacity is told so, where there is no fault
  pub overflows : (command : AnyCommand) (query : Query) → named ≡ Some command
      → SurelyAsks command.task command.settings.options shelf.held query
      → HasMoreEntries query command.settings.capacity → HasNoFault command.task shelf sink
      → IsOneOf overflowed status
  -- a text with a cause of refusal is refused
  pub refuses : (command : AnyCommand) (files : FileNames) → named ≡ Some command
      → query_files command.task ≡ Some files
      → HoldsRefused files command.settings.options shelf.held → HasNoFault command.task shelf sink
      → IsOneOf turned_down status
  -- what is generated is never refused
  pub finishes : (command : AnyCommand) (input : GenInput) → named ≡ Some command → command.task ≡ gen input
      → HasNoFault command.task shelf sink → IsOneOf finished status
  -- a query that is planned in stages has an answer, or there is no room for it in a stage
  pub stages_finish : (command : AnyCommand) (query : Query) (asked : StageNames) → named ≡ Some command
      → command.task ≡ stages asked → HoldsQuery asked.files command.settings.options shelf.held query
      → HasNoFault command.task shelf sink → IsOneOf finished status
  -- where each stage has room it has an answer
  pub stages_settle : (command : AnyCommand) (query : Query) (asked : StageNames) → named ≡ Some command
      → command.task ≡ stages asked → HoldsQuery asked.files command.settings.options shelf.held query
      → HaveRoom query command.settings.capacity asked.stages → HasNoFault command.task shelf sink
      → IsOneOf concluded status
  -- a text is refused as no plan only by a check
  pub plan_refused : status ≡ PlanRefused → (command : AnyCommand) × (named_files : PlanNames)
      × (named ≡ Some command) × (command.task ≡ check named_files)
  -- the text of a valid plan is told to be one
  pub accepts_plan : (command : AnyCommand) (named_files : PlanNames) (query : Query) (text : List ℕ) (cost : ℕ)
      → named ≡ Some command → command.task ≡ check named_files
      → HoldsPlan named_files command.settings.options shelf.held query text → IsGoodText query text cost
      → HasNoFault command.task shelf sink → IsOneOf served status
  -- a text with a fault is refused
  pub refuses_plan : (command : AnyCommand) (named_files : PlanNames) (query : Query) (text : List ℕ)
      (fault : TextFault)
      → named ≡ Some command → command.task ≡ check named_files
      → HoldsPlan named_files command.settings.options shelf.held query text → fault ≢ faults.Memory
      → HasFault query text fault → HasNoFault command.task shelf sink → IsOneOf plan_turned_down status
  -- a list is refused only by a batch
  pub batch_refused : status ≡ BatchRefused → (command : AnyCommand) × (files : ListNames) × (named ≡ Some command)
      × (command.task ≡ batch files)
  -- a list that isn't refused has a status for each line
  pub lists : (command : AnyCommand) (files : ListNames) → named ≡ Some command → command.task ≡ batch files
      → HoldsList files command.settings.capacity shelf.held None → HasNoFault command.task shelf sink
      → IsOneOf served status
  -- a list with a cause of refusal is refused
  pub refuses_list : (command : AnyCommand) (files : ListNames) (cause : List ℕ) → named ≡ Some command
      → command.task ≡ batch files → HoldsList files command.settings.capacity shelf.held (Some cause)
      → HasNoFault command.task shelf sink → IsOneOf list_refused status

-- all of it follows from the one record of how the run ends
abbrev pub EndsHaveCauses : Type 0
EndsHaveCauses = (named : Option AnyCommand) (shelf : Reads) (empty note : Note) (sink : Puts) (status : Status)
    → Ends (IsRun named shelf empty note) sink status → HasCauses named shelf sink status
