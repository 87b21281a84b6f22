use Rattle.query_core.specs.Finding.{left_of, FindsFrom, IsBefore, IsJoined}
use Rattle.query_core.proofs.query.Query.next_join.Given as goal

-- of the left sides so far it is the least
abbrev pub invariant-loop-left : goal.invariant-loop-left
invariant-loop-left l = FindsFrom (IsBefore (IsJoined l.self l.set) left_of l.left) l.bound l.next
