-- What was read of a command so far.
use Rattle.std.specs.Prelude.{ℕ, Some, true, List, [], ◌∷◌, ◌≡◌, ◌↔◌, map, nat_eq}
use Rattle.std.specs.List.{filter_map, list_all, list_any}
use Rattle.query_core.specs.Sets.{Has}
use Rattle.query_core.specs.Differ.{numbers_differ}
use Rattle.xform_rules.specs.Rules.{can_be_off, rule_number}
use Rattle.xform_rules.specs.declared.rules.Rule.{Rule}
use Rattle.command_line.specs.Rules.{off_set}
use Rattle.command_line.specs.Options.{takes_option}
use Rattle.command_line.specs.Command.{Piece, name_in, given_in, given_number}
use Rattle.command_line.specs.Reading.{settings_of}
use Rattle.command_line.specs.declared.options.TaskName.{TaskName}
use Rattle.command_line.specs.declared.draft.Draft.{Draft}
use Rattle.command_line.specs.declared.draft.TaskNames.{TaskNames}
use Rattle.command_line.specs.declared.draft.TaskNames.TheVariants.{Nothing, One, Two, Three}

-- the set has the bits of these numbers, of which none comes twice
pub record AreBits (numbers : List ℕ) (bits : ℕ) : Type 0 where
  pub has : (n : ℕ) → Has bits n ↔ (list_any (nat_eq n) numbers ≡ true)
  pub once : numbers_differ numbers ≡ true

-- the set has the bits of these rules, of which each can be off and none comes twice
pub record IsOffSet (some : List Rule) (bits : ℕ) : Type 0 where
  pub sum_of : bits ≡ off_set some
  pub are_bits : AreBits (map rule_number some) bits
  pub can : list_all can_be_off some ≡ true

-- the names that were read
abbrev pub names_read : TaskNames → List (List ℕ)
names_read Nothing = []
names_read (One first) = first.now ∷ []
names_read (Two first second) = first.now ∷ second.now ∷ []
names_read (Three first second third) = first.now ∷ second.now ∷ third.now ∷ []

-- the draft of a command has what the pieces ask for
pub record IsDraft (task : TaskName) (pieces : List Piece) (draft : Draft) : Type 0 where
  pub task_is : draft.task ≡ task
  pub taken : list_all (λ one. takes_option task one.option) (filter_map given_in pieces) ≡ true
  pub names : filter_map name_in pieces ≡ names_read draft.names
  pub settings : settings_of (filter_map given_in pieces) ≡ Some draft.settings
  pub given : AreBits (map given_number (filter_map given_in pieces)) draft.given
