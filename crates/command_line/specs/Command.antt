-- The commands that the words of a command line may be.
use Rattle.std.specs.Prelude.{ℕ, ◌-◌, ◌^◌, Bool, true, false, not, ◌&&◌, IsTrue, List, [], ◌∷◌, ◌++◌, ◌==◌, ◌≡◌, Option, None}
use Rattle.std.specs.Prelude.{Some, codes, decimal, map}
use Rattle.std.specs.List.{filter_map, list_all}
use Rattle.query_core.specs.Differ.{numbers_differ}
use Rattle.command_line.specs.Options.{option_word, option_number, setting_of, takes_option, takes_value, allows}
use Rattle.command_line.specs.Options.{usual, Chooses}
use Rattle.command_line.specs.Numbers.{IsWithin}
use Rattle.command_line.specs.Stages.{AnyStage, IsStagesWord}
use Rattle.command_line.specs.declared.settings.Settings.{Settings}
use Rattle.command_line.specs.declared.options.TaskName.{TaskName}
use Rattle.command_line.specs.declared.options.TaskName.TheVariants as tasks
use Rattle.command_line.specs.declared.options.OptionName.{OptionName}
use Rattle.command_line.specs.declared.command.GenInput.{GenInput}
use Rattle.query_generator.specs.declared.shape.GenShape.{GenShape}
use Rattle.query_generator.specs.declared.shape.GenShape.TheVariants.{Chain, Star, Clique}

-- the files of a catalogue and of a query
pub record FileNames : Type 0 where
  pub catalog : List ℕ
  pub query : List ℕ

-- those files, and the stages in which the query is planned
pub record StageNames : Type 0 where
  pub files : FileNames
  pub stages : List AnyStage

-- those files, and that of a plan's text
pub record PlanNames : Type 0 where
  pub files : FileNames
  pub plan : List ℕ

-- the files that a batch names
pub record ListNames : Type 0 where
  pub catalog : List ℕ
  pub list : List ℕ

-- what a command does: `plan` over the files of a catalogue and of a query; `gen` of what a catalogue and a query are
-- made of; `stages` over two files and stages; `check` over two files and that of a plan; `dump` over two files; `replay`
-- of a dump's file; or `batch` over a catalogue and a list of queries
pub data AnyTask : Type 0 where
  plan : FileNames → AnyTask
  gen : GenInput → AnyTask
  stages : StageNames → AnyTask
  check : PlanNames → AnyTask
  dump : FileNames → AnyTask
  replay : List ℕ → AnyTask
  batch : ListNames → AnyTask

-- a command: a task, and what is chosen for it by options
pub record AnyCommand : Type 0 where
  pub task : AnyTask
  pub settings : Settings

-- the name of a task
abbrev pub task_name : AnyTask → TaskName
task_name (plan files) = tasks.Plan
task_name (gen input) = tasks.Gen
task_name (stages named) = tasks.Stages
task_name (check named) = tasks.Check
task_name (dump files) = tasks.Dump
task_name (replay file) = tasks.Replay
task_name (batch files) = tasks.Batch

-- the word of a name
abbrev pub task_word : TaskName → List ℕ
task_word tasks.Plan = codes "plan"
task_word tasks.Gen = codes "gen"
task_word tasks.Stages = codes "stages"
task_word tasks.Check = codes "check"
task_word tasks.Dump = codes "dump"
task_word tasks.Replay = codes "replay"
task_word tasks.Batch = codes "batch"

-- the word of a shape
abbrev pub shape_word : GenShape → List ℕ
shape_word Chain = codes "chain"
shape_word Star = codes "star"
shape_word Clique = codes "clique"

-- ---- pieces

-- an option, and the word behind it if a value stands there
pub record Given : Type 0 where
  pub option : OptionName
  pub value : Option (List ℕ)

-- a piece of a command line: a name, or an option that is given
pub data Piece : Type 0 where
  name : List ℕ → Piece
  given : Given → Piece

-- the word isn't empty and doesn't begin with `-`
abbrev pub is_positional : List ℕ → Bool
is_positional [] = false
is_positional (first ∷ others) = not (first == 45)

-- the words are those of the piece
pub data IsSpelled : Piece → List (List ℕ) → Type 0 where
  a_name : (word : List ℕ) → IsTrue (is_positional word) → IsSpelled (name word) (word ∷ [])
  with_value : (option : OptionName) (value : List ℕ) → takes_value option ≡ true
      → IsSpelled (given (record { option = option; value = Some value })) (option_word option ∷ value ∷ [])
  by_itself : (option : OptionName) → takes_value option ≡ false
      → IsSpelled (given (record { option = option; value = None })) (option_word option ∷ [])

-- the words are those of the pieces, one behind the other
pub data AreSpelled : List Piece → List (List ℕ) → Type 0 where
  no_more : AreSpelled [] []
  one_more : (piece : Piece) (pieces : List Piece) (front back : List (List ℕ)) → IsSpelled piece front
      → AreSpelled pieces back → AreSpelled (piece ∷ pieces) (front ++ back)

-- ---- which command the pieces make

-- the name, where the piece is one
abbrev pub name_in : Piece → Option (List ℕ)
name_in (name word) = Some word
name_in (given one) = None

-- the option, where the piece is one
abbrev pub given_in : Piece → Option Given
given_in (name word) = None
given_in (given one) = Some one

-- the words are a number of 64 bits, how many tables there are, of which there are 1 to 8, and a shape
pub record IsInput (input : GenInput) (words : List (List ℕ)) : Type 0 where
  pub number : IsWithin 0 (2 ^ 64 - 1) input.number
  pub tables : IsWithin 1 8 input.tables
  pub are : words ≡ decimal input.number ∷ decimal input.tables ∷ shape_word input.shape ∷ []

-- the words are two files and the word of stages
pub record AreStageNames (named : StageNames) (words : List (List ℕ)) : Type 0 where
  pub word : List ℕ
  pub of_stages : IsStagesWord named.stages word
  pub are : words ≡ named.files.catalog ∷ named.files.query ∷ word ∷ []

-- the names are those of the task: its files, in the order of the task's record, and behind them the word of stages
-- where it has some; or what a catalogue and a query are made of
abbrev pub AreNames : AnyTask → List (List ℕ) → Type 0
AreNames (plan files) names = names ≡ files.catalog ∷ files.query ∷ []
AreNames (gen input) names = IsInput input names
AreNames (stages named) names = AreStageNames named names
AreNames (check named) names = names ≡ named.files.catalog ∷ named.files.query ∷ named.plan ∷ []
AreNames (dump files) names = names ≡ files.catalog ∷ files.query ∷ []
AreNames (replay file) names = names ≡ file ∷ []
AreNames (batch files) names = names ≡ files.catalog ∷ files.list ∷ []

-- the options that are given take the settings before to those after, one behind the other
abbrev pub AreChosen : Settings → List Given → Settings → Type 0
AreChosen before [] after = after ≡ before
AreChosen before (one ∷ more) after =
    (middle : Settings) × Chooses (setting_of one.option) one.value before middle × AreChosen middle more after

-- the number of the option that is given
abbrev pub given_number : Given → ℕ
given_number one = option_number one.option

-- the task takes each option, and none is given twice
abbrev pub may_be_given : TaskName → List Given → Bool
may_be_given task some = list_all (λ one. takes_option task one.option) some && numbers_differ (map given_number some)

-- the words are this command: its task's word, and behind it its names and its options, each at most once, in whatever
-- order
pub record IsSpelledOut (words : List (List ℕ)) (command : AnyCommand) : Type 0 where
  pub pieces : List Piece
  pub behind : List (List ℕ)
  pub word_first : words ≡ task_word (task_name command.task) ∷ behind
  pub spelled : AreSpelled pieces behind
  pub once : IsTrue (may_be_given (task_name command.task) (filter_map given_in pieces))
  pub names : AreNames command.task (filter_map name_in pieces)
  pub chosen : AreChosen usual (filter_map given_in pieces) command.settings
  pub allowed : IsTrue (allows (task_name command.task) command.settings)
