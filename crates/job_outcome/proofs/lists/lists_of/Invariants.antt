use Rattle.std.proofs.Common.{◌≡◌, take, map}
use Rattle.goal_board.specs.declared.answers.Finished.{Finished}
use Rattle.job_outcome.specs.Searched.{told_of}
use Rattle.job_outcome.proofs.lists.lists_of.Given as goal

-- what the lists have of the goals before this one
abbrev pub invariant-loop-one : goal.invariant-loop-one
invariant-loop-one l = record {
  words : l.goals.items ≡ map (λ (f : Finished). f.goal) (take l.one-index l.finished);
  told : l.answers.items ≡ map told_of (take l.one-index l.finished);
  workers : l.who.items ≡ map (λ (f : Finished). f.who) (take l.one-index l.finished);
}
