use Rattle.std.proofs.Common.{subst}
use Rattle.std.specs.List.Sorted.{IsStrictlyIncreasing}
use Rattle.std.proofs.lemmas.Map.Keys.{IsStrictlyIncreasing-from_sorted}
use Rattle.plan_search.proofs.word_set.WordSet.len.Goals as goal

-- the keys of a set ascend
pub returns-clause-ascending : goal.returns-clause-ascending
returns-clause-ascending c = subst IsStrictlyIncreasing c.self.view_is
    (IsStrictlyIncreasing-from_sorted c.self.inside.words.keys c.len.ensures.ordered)
