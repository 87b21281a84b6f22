use Rattle.std.proofs.Common.{◌≡◌, ◌++◌, length, take}
use Rattle.orca_cli.specs.Staged.{ran_line, lines_from}
use Rattle.orca_cli.specs.Views.{bytes_of_texts}
use Rattle.orca_cli.proofs.stage_text.stage_lines.Given as goal

-- how many stages ran, and the lines of those so far
abbrev pub invariant-loop-number : goal.invariant-loop-number
invariant-loop-number l =
    bytes_of_texts l.texts.items ≡ ran_line (length l.ran) ++ lines_from 0 (take l.number l.cost-items)
