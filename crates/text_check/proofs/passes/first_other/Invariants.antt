use Rattle.std.proofs.Common.{All, take, zip}
use Rattle.text_check.specs.Outcome.{HasOwnNumbers}
use Rattle.text_check.proofs.passes.first_other.Given as goal

-- the lines before this one have the plan's own numbers
abbrev pub invariant-loop-place : goal.invariant-loop-place
invariant-loop-place l = All HasOwnNumbers (take l.place (zip l.lines l.own))
