use Rattle.std.proofs.Common.{◌≡◌}
use Rattle.place_hints.proofs.deque.Deque.push_all.Given as goal

-- the capacity stays
abbrev pub invariant-loop-place : goal.invariant-loop-place
invariant-loop-place l = l.self ≡ l.initial.self
