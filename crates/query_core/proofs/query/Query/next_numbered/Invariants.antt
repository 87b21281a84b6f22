use Rattle.std.proofs.Common.{None}
use Rattle.query_core.specs.Finding.{operator_number, index_of, FindsFrom, IsAt, IsBefore, IsOver}
use Rattle.query_core.proofs.query.Query.next_numbered.Given as goal

-- no operator of a lesser index has a word from the bound on
abbrev pub invariant-loop-index : goal.invariant-loop-index
invariant-loop-index l =
    FindsFrom (IsBefore (IsAt (IsOver l.self l.group l.children) operator_number l.number) index_of l.index) l.bound
    None
