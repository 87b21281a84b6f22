-- How the words of a command line are read.
use Rattle.std.specs.Prelude.{ℕ, ◌-◌, ◌^◌, Bool, false, List, [], ◌∷◌, ◌==◌, Option, None, Some, codes, bytes_eq}
use Rattle.std.specs.Prelude.{if◌then◌else◌, length, nat_le, option_map}
use Rattle.std.specs.List.{filter_map, find, fold, slice_split}
use Rattle.std.specs.Option.{option_and_then, option_map_or}
use Rattle.query_core.specs.declared.options.RootDist.{RootDist}
use Rattle.query_core.specs.declared.options.RootDist.TheVariants.{One, Spread}
use Rattle.xform_rules.specs.Rules.{all_rules, rule_name}
use Rattle.xform_rules.specs.declared.rules.Rule.{Rule}
use Rattle.command_line.specs.Numbers.{number_within}
use Rattle.command_line.specs.Rules.{may_be_off, off_set}
use Rattle.command_line.specs.Options.{Setting, a_number, a_root, some_rules, alone, option_word, setting_of, all_options}
use Rattle.command_line.specs.Options.{takes_value, allows, usual}
use Rattle.command_line.specs.Stages.{AnyStage}
use Rattle.command_line.specs.Command.{AnyTask, AnyCommand, plan, gen, stages, check, dump, replay, batch, task_name}
use Rattle.command_line.specs.Command.{Given, Piece, name, given}
use Rattle.command_line.specs.Command.{is_positional, name_in, given_in, may_be_given}
use Rattle.command_line.specs.declared.settings.Settings.{Settings}
use Rattle.command_line.specs.declared.options.TaskName.{TaskName}
use Rattle.command_line.specs.declared.options.TaskName.TheVariants as tasks
use Rattle.command_line.specs.declared.options.OptionName.{OptionName}
use Rattle.command_line.specs.declared.command.GenInput.{GenInput}
use Rattle.query_generator.specs.declared.shape.GenShape.{GenShape}
use Rattle.query_generator.specs.declared.shape.GenShape.TheVariants.{Chain, Star, Clique}

-- ---- values

-- the distribution of a word
abbrev pub root_of : List ℕ → Option RootDist
root_of word =
    if bytes_eq word (codes "one") then Some One
    else if bytes_eq word (codes "spread") then Some Spread
    else None

-- the rule of a name
abbrev pub rule_of_name : List ℕ → Option Rule
rule_of_name word = find (λ rule. bytes_eq (rule_name rule) word) all_rules

-- what the words say, where each says something
abbrev pub all_of : {X : Type 0} → (List ℕ → Option X) → List (List ℕ) → Option (List X)
all_of item [] = Some []
all_of item (word ∷ more) = option_and_then (λ one. option_map (λ others. one ∷ others) (all_of item more)) (item word)

-- what the word says whose parts are joined by a byte, where the parts may stand together
abbrev pub joined_by : {X Y : Type 0} → ℕ → (List ℕ → Option X) → (List X → Option Y) → List ℕ → Option Y
joined_by byte item together word = option_and_then together (all_of item (slice_split (λ other. other == byte) word))

-- the set of rules, where they may be off
abbrev pub set_where_off : List Rule → Option ℕ
set_where_off some = if may_be_off some then Some (off_set some) else None

-- the set of the rules that the word names
abbrev pub off_of : List ℕ → Option ℕ
off_of word = joined_by 43 rule_of_name set_where_off word

-- ---- stages

-- the set of the rules that are off in a stage
abbrev pub off_in : List ℕ → Option ℕ
off_in word = if bytes_eq word (codes "all") then Some 0 else off_of word

-- the stage with these rules off and this threshold
abbrev pub stage_with : Option ℕ → Option ℕ → Option AnyStage
stage_with off threshold =
    option_and_then (λ set. option_map (λ cost. record { off = set; threshold = Some cost }) threshold) off

-- the stage of a word's parts: of its rules, and of its threshold if there is one
abbrev pub stage_in : List (List ℕ) → Option AnyStage
stage_in [] = None
stage_in (rules ∷ []) = option_map (λ set. record { off = set; threshold = None }) (off_in rules)
stage_in (rules ∷ threshold ∷ []) = stage_with (off_in rules) (number_within 1 100000000000000000 threshold)
stage_in (rules ∷ threshold ∷ third ∷ more) = None

-- the stage that the word names
abbrev pub stage_of : List ℕ → Option AnyStage
stage_of word = stage_in (slice_split (λ byte. byte == 64) word)

-- the stages, where there are at most 8
abbrev pub few : List AnyStage → Option (List AnyStage)
few some = if nat_le (length some) 8 then Some some else None

-- the stages that the word names
abbrev pub stages_of : List ℕ → Option (List AnyStage)
stages_of word = joined_by 44 stage_of few word

-- ---- options

-- the option that the word names
abbrev pub option_named : List ℕ → Option OptionName
option_named word = find (λ option. bytes_eq word (option_word option)) all_options

-- the settings with the value behind the option, where it is one of its values
abbrev pub chosen_by : Setting → Option (List ℕ) → Settings → Option Settings
chosen_by (a_number low high set) value c = option_map (λ n. set n c) (option_and_then (number_within low high) value)
chosen_by (a_root set) value c = option_map (λ dist. set dist c) (option_and_then root_of value)
chosen_by (some_rules set) value c = option_map (λ off. set off c) (option_and_then off_of value)
chosen_by (alone set) value c = Some (set c)

-- the settings with one option more
abbrev pub chosen : Option Settings → Given → Option Settings
chosen before one = option_and_then (chosen_by (setting_of one.option) one.value) before

-- what the options that are given choose, and what is usual for the rest
abbrev pub settings_of : List Given → Option Settings
settings_of some = fold chosen (Some usual) some

-- ---- pieces

-- the piece and those behind it, where all are pieces
abbrev pub in_front : Option Piece → Option (List Piece) → Option (List Piece)
in_front first others = option_and_then (λ piece. option_map (λ pieces. piece ∷ pieces) others) first

-- the piece of a word that is no option
abbrev pub named : List ℕ → Option Piece
named word = if is_positional word then Some (name word) else None

-- the word is an option with a value behind it
abbrev pub is_valued : List ℕ → Bool
is_valued word = option_map_or takes_value (option_named word) false

-- the piece of one word
abbrev pub piece_of : List ℕ → Option Piece
piece_of word = option_map_or (λ option. Some (given (record { option = option; value = None }))) (option_named word)
    (named word)

-- the piece of an option and its value
abbrev pub valued_piece : List ℕ → List ℕ → Option Piece
valued_piece word value = option_map (λ option. given (record { option = option; value = Some value }))
    (option_named word)

-- the pieces of words
abbrev pub pieces_of : List (List ℕ) → Option (List Piece)
pieces_of [] = Some []
pieces_of (word ∷ []) = if is_valued word then None else in_front (piece_of word) (Some [])
pieces_of (word ∷ value ∷ more) = if is_valued word then in_front (valued_piece word value) (pieces_of more) else
    in_front (piece_of word) (pieces_of (value ∷ more))

-- ---- commands

-- the task of one name
abbrev pub of_one : (List ℕ → AnyTask) → List (List ℕ) → Option AnyTask
of_one make [] = None
of_one make (first ∷ []) = Some (make first)
of_one make (first ∷ second ∷ more) = None

-- the task of two names
abbrev pub of_two : (List ℕ → List ℕ → AnyTask) → List (List ℕ) → Option AnyTask
of_two make [] = None
of_two make (first ∷ []) = None
of_two make (first ∷ second ∷ []) = Some (make first second)
of_two make (first ∷ second ∷ third ∷ more) = None

-- what three names say
abbrev pub of_three : {T : Type 0} → (List ℕ → List ℕ → List ℕ → Option T) → List (List ℕ) → Option T
of_three make [] = None
of_three make (first ∷ []) = None
of_three make (first ∷ second ∷ []) = None
of_three make (first ∷ second ∷ third ∷ []) = make first second third
of_three make (first ∷ second ∷ third ∷ fourth ∷ more) = None

-- `plan` over the files of a catalogue and of a query
abbrev pub plan_over : List ℕ → List ℕ → AnyTask
plan_over catalog query = plan (record { catalog = catalog; query = query })

-- `stages` over these files and stages
abbrev pub stages_over : List ℕ → List ℕ → List ℕ → Option AnyTask
stages_over catalog query word =
    option_map (λ some. stages (record { files = record { catalog = catalog; query = query }; stages = some }))
    (stages_of word)

-- `check` over the files of a catalogue, of a query and of a plan
abbrev pub check_over : List ℕ → List ℕ → List ℕ → Option AnyTask
check_over catalog query text =
    Some (check (record { files = record { catalog = catalog; query = query }; plan = text }))

-- `dump` over the files of a catalogue and of a query
abbrev pub dump_over : List ℕ → List ℕ → AnyTask
dump_over catalog query = dump (record { catalog = catalog; query = query })

-- `batch` over the files of a catalogue and of a list
abbrev pub batch_over : List ℕ → List ℕ → AnyTask
batch_over catalog list = batch (record { catalog = catalog; list = list })

-- the shape of a word
abbrev pub shape_of : List ℕ → Option GenShape
shape_of word =
    if bytes_eq word (codes "chain") then Some Chain
    else if bytes_eq word (codes "star") then Some Star
    else if bytes_eq word (codes "clique") then Some Clique
    else None

-- what the words of a number, of a count of tables and of a shape say
abbrev pub input_with : Option ℕ → Option ℕ → Option GenShape → Option GenInput
input_with number tables shape =
    option_and_then (λ n. option_and_then (λ t. option_map (λ s. record { number = n; tables = t; shape = s }) shape)
    tables) number

-- what three names say: a number, how many tables there are, and a shape
abbrev pub input_by : List ℕ → List ℕ → List ℕ → Option GenInput
input_by number tables shape =
    input_with (number_within 0 (2 ^ 64 - 1) number) (number_within 1 8 tables) (shape_of shape)

abbrev pub input_of : List (List ℕ) → Option GenInput
input_of names = of_three input_by names

-- what the task of this name does with the names
abbrev pub task_of : TaskName → List (List ℕ) → Option AnyTask
task_of tasks.Plan names = of_two plan_over names
task_of tasks.Gen names = option_map gen (input_of names)
task_of tasks.Stages names = of_three stages_over names
task_of tasks.Check names = of_three check_over names
task_of tasks.Dump names = of_two dump_over names
task_of tasks.Replay names = of_one replay names
task_of tasks.Batch names = of_two batch_over names

-- the command of a task and of what is chosen, where the task allows that
abbrev pub command_where : AnyTask → Settings → Option AnyCommand
command_where task settings =
    if allows (task_name task) settings then Some (record { task = task; settings = settings }) else None

-- the same where there is a task, and something is chosen
abbrev pub command_with : Option AnyTask → Option Settings → Option AnyCommand
command_with task settings = option_and_then (λ c. option_and_then (λ t. command_where t c) task) settings

-- the command of these names and of these options
abbrev pub command_made : TaskName → List (List ℕ) → List Given → Option AnyCommand
command_made task names some = if may_be_given task some then command_with (task_of task names) (settings_of some) else
    None

-- the command that the pieces make behind the task's word
abbrev pub command_from : TaskName → List Piece → Option AnyCommand
command_from task pieces = command_made task (filter_map name_in pieces) (filter_map given_in pieces)

-- the command that the words behind the task's make
abbrev pub behind_name : TaskName → List (List ℕ) → Option AnyCommand
behind_name task words = option_and_then (command_from task) (pieces_of words)

-- the task of a word
abbrev pub task_named : List ℕ → Option TaskName
task_named word =
    if bytes_eq word (codes "plan") then Some tasks.Plan
    else if bytes_eq word (codes "gen") then Some tasks.Gen
    else if bytes_eq word (codes "stages") then Some tasks.Stages
    else if bytes_eq word (codes "check") then Some tasks.Check
    else if bytes_eq word (codes "dump") then Some tasks.Dump
    else if bytes_eq word (codes "replay") then Some tasks.Replay
    else if bytes_eq word (codes "batch") then Some tasks.Batch
    else None

-- the command that the words are; there is none where they are spelled otherwise
abbrev pub command_of : List (List ℕ) → Option AnyCommand
command_of [] = None
command_of (first ∷ others) = option_and_then (λ task. behind_name task others) (task_named first)
