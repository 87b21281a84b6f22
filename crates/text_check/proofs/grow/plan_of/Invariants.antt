use Rattle.std.proofs.Common.{length}
use Rattle.text_check.proofs.Steps.{AreMade}
use Rattle.text_check.proofs.grow.plan_of.Given as goal

-- the lines behind those that are left are those of the plans that were made
abbrev pub invariant-loop-line : goal.invariant-loop-line
invariant-loop-line l = AreMade l.query l.lines l.rest l.grown.items

abbrev pub decreases-loop-line : goal.decreases-loop-line
decreases-loop-line l = length l.rest
