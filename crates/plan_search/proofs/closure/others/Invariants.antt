use Rattle.std.proofs.Common.{take}
use Rattle.plan_search.specs.Steps.{AreOthers}
use Rattle.plan_search.proofs.closure.others.Given as goal

-- of the words so far those that aren't among the others have been taken
abbrev pub invariant-loop-word : goal.invariant-loop-word
invariant-loop-word l = AreOthers (take l.word-index l.words) l.some l.new.items
