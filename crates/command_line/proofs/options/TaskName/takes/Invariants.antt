use Rattle.std.proofs.Common.{◌≡◌, false, take, nat_eq}
use Rattle.std.specs.List.{list_any}
use Rattle.command_line.specs.Options.{option_number}
use Rattle.command_line.proofs.options.TaskName.takes.Given as goal

-- none of the options so far is this one
abbrev pub invariant-loop-taken : goal.invariant-loop-taken
invariant-loop-taken l =
    list_any (λ taken. nat_eq (option_number taken) (option_number l.option)) (take l.taken-index l.taken-items) ≡ false
