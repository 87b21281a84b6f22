-- The words of the joins by the operators before this place are added.
use Rattle.std.proofs.Common.{◌≡◌}
use Rattle.request_props.specs.Joins.{words_by}
use Rattle.request_props.proofs.tables.candidates.joins.push_words.Given as goal

abbrev pub invariant-loop-place : goal.invariant-loop-place
invariant-loop-place l = l.words ≡ words_by l.set l.sides l.place
