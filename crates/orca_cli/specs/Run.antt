-- How a run ends: its status and its text with their cause, its note, and what the sink took of the text.
use Rattle.std.specs.Prelude.{◌≡◌, ℕ, List, Option, None, Some}
use Rattle.std.specs.Io.KnownBytes.{Appends, Keeps}
use Rattle.orca_base.specs.Causes.{Rose}
use Rattle.orca_io.specs.Sink.{TakesPrefix}
use Rattle.query_core.specs.declared.query.Query.{Query}
use Rattle.command_line.specs.Command.{AnyTask, AnyCommand, plan, gen, stages, check, dump, replay, batch}
use Rattle.command_line.specs.declared.settings.Settings.{Settings}
use Rattle.orca_cli.specs.Batches.{FilesBatch}
use Rattle.orca_cli.specs.Checked.{FilesChecked}
use Rattle.orca_cli.specs.Dumps.{FilesDump, FileReplay}
use Rattle.orca_cli.specs.Prepared.{Reads, generated_in, IsAskedBy, IsUsage, TaskStops}
use Rattle.orca_cli.specs.Answers.{Note, IsSearchEnd}
use Rattle.orca_cli.specs.Sections.{Tells}
use Rattle.orca_cli.specs.Staged.{FilesStaged}
use Rattle.orca_cli.specs.declared.status.Status.{Status}
use Rattle.orca_cli.specs.declared.status.Status.TheVariants.{WriteFault, Memory}

-- the end of a task that is more than the search of one query, with a text of its own: that of stages, of a check, of a
-- dump, or of a batch
abbrev pub IsOwnEnd : AnyTask → Settings → (List ℕ → Option (List ℕ)) → Status → List ℕ → Type 0
IsOwnEnd (plan files) settings held status text = ⊥
IsOwnEnd (gen input) settings held status text = ⊥
IsOwnEnd (stages named) settings held status text = FilesStaged named settings held status text
IsOwnEnd (check named) settings held status text = FilesChecked named settings.options held status text
IsOwnEnd (dump files) settings held status text = FilesDump files settings held status text
IsOwnEnd (replay file) settings held status text = ⊥
IsOwnEnd (batch files) settings held status text = FilesBatch files settings held status text

-- the status and the text of a run of the command, with their cause, and the note, which was empty before it: the query
-- for which the command asks was searched, or the query of the dump that it replays; or the task ended with a text of
-- its own, or without a search, and the note stays as it was
pub data IsEnding (command : AnyCommand) (shelf : Reads) (empty note : Note) (status : Status) (text : List ℕ) : Type 0
  where
    answered : (query : Query) → IsAskedBy command.task command.settings.options shelf.held query
        → IsSearchEnd (Tells (generated_in command.task) command.settings query) command.settings query note status text
        → IsEnding command shelf empty note status text
    from_dump : (file : List ℕ) → command.task ≡ replay file
        → FileReplay file command.settings.workers shelf.held note status text
        → IsEnding command shelf empty note status text
    own_end : IsOwnEnd command.task command.settings shelf.held status text → note ≡ empty
        → IsEnding command shelf empty note status text
    stopped : TaskStops command.task command.settings shelf status text → note ≡ empty
        → IsEnding command shelf empty note status text

-- and so by the command that the words are, where they are one
abbrev pub IsRun : Option AnyCommand → Reads → Note → Note → Status → List ℕ → Type 0
IsRun None shelf empty note status text = IsUsage status text × (note ≡ empty)
IsRun (Some command) shelf empty note status text = IsEnding command shelf empty note status text

-- what a call does to its sink: what was taken, where it is told, and the count of faults, each before the call and
-- after it
pub record Puts : Type 0 where
  pub old : Option (List ℕ)
  pub new : Option (List ℕ)
  pub before : ℕ
  pub after : ℕ

abbrev pub puts : Option (List ℕ) → Option (List ℕ) → ℕ → ℕ → Puts
puts old new before after = record { old = old; new = new; before = before; after = after }

-- what the sink took, by the status: the whole text of it; or a prefix of a text that the run might have ended with,
-- where the sink failed; or nothing, where memory ran out
pub data Ends (IsText : Status → List ℕ → Type 0) (sink : Puts) (status : Status) : Type 0 where
  whole : (text : List ℕ) → IsText status text → Appends sink.old sink.new text → Ends IsText sink status
  cut_short : status ≡ WriteFault → Rose sink.before sink.after → (ended : Status) → (text : List ℕ)
      → IsText ended text → TakesPrefix sink.old sink.new text → Ends IsText sink status
  nothing : status ≡ Memory → Keeps sink.old sink.new → Ends IsText sink status
