-- Words are read as the command that they spell, and as no other.
use Rattle.std.proofs.Common.{◌≡◌, ℕ, Bool, true, false, cond, List, [], ◌∷◌, Option, None, Some}
use Rattle.std.proofs.Common.{refl, ap, ◌∙◌, subst}
use Rattle.std.specs.List.{filter_map}
use Rattle.std.specs.Option.{option_and_then}
use Rattle.command_line.specs.Options.{usual}
use Rattle.command_line.specs.Command.{AnyCommand, task_name, task_word, Piece}
use Rattle.command_line.specs.Command.{name_in, given_in, may_be_given, IsSpelledOut}
use Rattle.command_line.specs.Reading.{settings_of, pieces_of, command_from, command_with, task_of}
use Rattle.command_line.specs.Reading.{behind_name, task_named, command_of}
use Rattle.command_line.specs.declared.options.TaskName.{TaskName}
use Rattle.command_line.proofs.Chosen.{all_chosen, chosen_spelled}
use Rattle.command_line.proofs.FirstPieces.{of_name}
use Rattle.command_line.proofs.Made.{name_read, name_spelled, names_read, made_command}
use Rattle.command_line.proofs.SpelledPieces.{pieces_read, pieces_spelled}

-- a command that is spelled out is read
pub spelled_read : (words : List (List ℕ)) (command : AnyCommand) → IsSpelledOut words command
    → command_of words ≡ Some command
spelled_read words command is =
    let task = task_name command.task in
    of_name task words (task_word task) is.behind is.word_first (name_read task)
    ∙ ap (option_and_then (command_from task)) (pieces_read is.pieces is.behind is.spelled)
    ∙ rw (
      is.once,
      names_read command.task (filter_map name_in is.pieces) is.names,
      all_chosen usual (filter_map given_in is.pieces) command.settings is.chosen,
      is.allowed,
    ) refl

-- a command that is read is spelled out
pub read_spelled : (words : List (List ℕ)) (command : AnyCommand) → command_of words ≡ Some command
    → IsSpelledOut words command
read_spelled [] command is = cc
read_spelled (first ∷ others) command is = of_name_read (task_named first) refl is
  where
    of_given : (task : TaskName) (pieces : List Piece) (g : Bool) → task_named first ≡ Some task
        → pieces_of others ≡ Some pieces → may_be_given task (filter_map given_in pieces) ≡ g
        → cond g (command_with (task_of task (filter_map name_in pieces)) (settings_of (filter_map given_in pieces)))
        None ≡ Some command → IsSpelledOut (first ∷ others) command
    of_given task pieces false spelt read once made = cc
    of_given task pieces true spelt read once made =
        let parts = made_command task (filter_map name_in pieces) (settings_of (filter_map given_in pieces)) command
        made in
        record {
          pieces = pieces;
          behind = others;
          word_first = ap (λ w. w ∷ others) (name_spelled first (task_name command.task) (spelt ∙ ap Some parts.named));
          spelled = pieces_spelled others pieces read;
          once = subst (λ n. may_be_given n (filter_map given_in pieces) ≡ true) parts.named once;
          names = parts.are_names;
          chosen = chosen_spelled usual (filter_map given_in pieces) command.settings parts.chosen;
          allowed = parts.allowed;
        }

    of_pieces : (task : TaskName) (ps : Option (List Piece)) → task_named first ≡ Some task
        → pieces_of others ≡ ps → option_and_then (command_from task) ps ≡ Some command
        → IsSpelledOut (first ∷ others) command
    of_pieces task None spelt read made = cc
    of_pieces task (Some pieces) spelt read made =
        of_given task pieces (may_be_given task (filter_map given_in pieces)) spelt read refl made

    of_name_read : (n : Option TaskName) → task_named first ≡ n
        → option_and_then (λ task. behind_name task others) n ≡ Some command → IsSpelledOut (first ∷ others) command
    of_name_read None spelt made = cc
    of_name_read (Some task) spelt made = of_pieces task (pieces_of others) spelt refl made

-- words spell one command at most
pub one_command : (words : List (List ℕ)) (command other : AnyCommand) → IsSpelledOut words command
    → IsSpelledOut words other → command ≡ other
one_command words command other is again =
    let read : command_of words ≡ Some command = spelled_read words command is in
    let read_again : command_of words ≡ Some other = spelled_read words other again in
    cc
