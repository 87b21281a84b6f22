use Rattle.plan_search.proofs.Listed.{AreMade}
use Rattle.plan_search.proofs.native.natives_of.Given as goal

-- the members with the words so far
abbrev pub invariant-loop-word : goal.invariant-loop-word
invariant-loop-word l = AreMade l.query l.fn.group l.words l.word-index l.list.items
