use Rattle.std.proofs.Common.{ℕ, ◌<◌, ◌≤◌, get_or, length, map}
use Rattle.goal_space.specs.Words.{goal_word}
use Rattle.goal_children.proofs.words.place_for.Given as goal

-- the goals from the place on have greater words
abbrev pub invariant-loop-place : goal.invariant-loop-place
invariant-loop-place l = record {
  within : l.place ≤ length l.goals;
  after : (k : ℕ) → l.place ≤ k → k < length l.goals → l.word < get_or (map goal_word l.goals) k 0;
}

abbrev pub decreases-loop-place : goal.decreases-loop-place
decreases-loop-place l = l.place
