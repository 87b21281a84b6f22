-- The words of the joins over the sides before this place are added.
use Rattle.std.proofs.Common.{◌≡◌, ◌++◌, take}
use Rattle.request_props.specs.Joins.{join_words}
use Rattle.request_props.proofs.tables.candidates.joins.push_joins.Given as goal

abbrev pub invariant-loop-place : goal.invariant-loop-place
invariant-loop-place l = l.words ≡ l.fn.words ++ join_words l.set l.number (take l.place l.sides)
