use Rattle.std.proofs.Common.{None}
use Rattle.query_core.specs.Finding.{operator_number, FindsFrom, IsBefore, IsOver}
use Rattle.query_core.proofs.query.Query.next_over.Given as goal

-- no operator of a lesser number has a word from the bound on
abbrev pub invariant-loop-number : goal.invariant-loop-number
invariant-loop-number l = FindsFrom (IsBefore (IsOver l.self l.group l.children) operator_number l.number) l.bound None
