use Rattle.std.proofs.Common.{ℕ, ◌-◌, ◌<◌, ◌≤◌, length, get_or}
use Rattle.goal_children.specs.MemberJobs.{word_at}
use Rattle.goal_children.proofs.members.first_from.Given as goal

-- the goals of the words below the one place lie below the bound, and those from the other on don't
abbrev pub invariant-halves : goal.invariant-halves
invariant-halves l = record {
  order : l.low ≤ l.high;
  within : l.high ≤ length l.words;
  before : (k : ℕ) → k < l.low → word_at l.job (get_or l.words k 0) < l.bound;
  after : (k : ℕ) → l.high ≤ k → k < length l.words → l.bound ≤ word_at l.job (get_or l.words k 0);
}

abbrev pub decreases-halves : goal.decreases-halves
decreases-halves l = l.high - l.low
