-- How what is spelled and what is read agree.
use Rattle.std.specs.Prelude.{◌≡◌, ◌↔◌, ℕ, List, Some}
use Rattle.command_line.specs.Command.{AnyCommand, IsSpelledOut}
use Rattle.command_line.specs.Reading.{command_of}

-- words are read as the command that they spell, and as no other
abbrev pub ReadsWhatIsSpelled : Type 0
ReadsWhatIsSpelled = (words : List (List ℕ)) (command : AnyCommand) → IsSpelledOut words command
    ↔ (command_of words ≡ Some command)

-- words spell one command at most
abbrev pub SpellsOne : Type 0
SpellsOne = (words : List (List ℕ)) (command other : AnyCommand) → IsSpelledOut words command → IsSpelledOut words other
    → command ≡ other
