use Rattle.std.proofs.Common.{◌≡◌, ◌++◌, length}
use Rattle.orca_cli.specs.Lists.{lines_of}
use Rattle.orca_cli.specs.Views.{lines_read}
use Rattle.orca_cli.proofs.lists.lines_of.Given as goal

-- the lines so far, and those of the rest
abbrev pub invariant-loop-end : goal.invariant-loop-end
invariant-loop-end l = lines_of l.text ≡ lines_read l.lines.items ++ lines_of l.rest

-- the rest is shorter
abbrev pub decreases-loop-end : goal.decreases-loop-end
decreases-loop-end l = length l.rest
