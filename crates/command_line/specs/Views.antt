-- What clauses see of the program's values.
use Rattle.std.specs.Prelude.{ℕ, Option, List, option_map}
use Rattle.std.specs.Borrow.{Bor}
use Rattle.command_line.specs.HeldStages.{stages_read}
use Rattle.command_line.specs.Command.{FileNames, StageNames, PlanNames, ListNames, AnyTask, AnyCommand}
use Rattle.command_line.specs.Command.{plan, gen, stages, check, dump, replay, batch, Piece, name, given}
use Rattle.command_line.specs.declared.command.Command.{Command}
use Rattle.command_line.specs.declared.command.Files.{Files}
use Rattle.command_line.specs.declared.command.ListFiles.{ListFiles}
use Rattle.command_line.specs.declared.command.PlanFiles.{PlanFiles}
use Rattle.command_line.specs.declared.command.StageFiles.{StageFiles}
use Rattle.command_line.specs.declared.command.Task.{Task}
use Rattle.command_line.specs.declared.command.Task.TheVariants as tasks
use Rattle.command_line.specs.declared.options.OptionName.{OptionName}
use Rattle.command_line.specs.declared.pieces.Word.{Word}
use Rattle.command_line.specs.declared.pieces.Word.TheVariants as words

-- the names of the files
abbrev pub file_names : Files → FileNames
file_names files = record { catalog = files.catalog.now; query = files.query.now }

-- those of stages
abbrev pub stage_names : StageFiles → StageNames
stage_names named = record { files = file_names named.files; stages = stages_read named.stages }

-- those of a check
abbrev pub plan_names : PlanFiles → PlanNames
plan_names named = record { files = file_names named.files; plan = named.plan.now }

-- and those of a batch
abbrev pub list_names : ListFiles → ListNames
list_names files = record { catalog = files.catalog.now; list = files.list.now }

-- what a task does
abbrev pub task_read : Task → AnyTask
task_read (tasks.Plan files) = plan (file_names files)
task_read (tasks.Gen made) = gen made.input
task_read (tasks.Stages named) = stages (stage_names named)
task_read (tasks.Check named) = check (plan_names named)
task_read (tasks.Dump files) = dump (file_names files)
task_read (tasks.Replay file) = replay file.now
task_read (tasks.Batch files) = batch (list_names files)

-- what a command asks for
abbrev pub command_read : Command → AnyCommand
command_read command = record { task = task_read command.task; settings = command.settings }

-- the piece of an option and of what stands behind it
abbrev pub option_given : OptionName → Option (Bor (List ℕ)) → Piece
option_given option value = given (record { option = option; value = option_map (λ word. word.now) value })

-- the piece that was read
abbrev pub piece : Word → Piece
piece (words.Name text) = name text.now
piece (words.Option option value) = option_given option value
