use Rattle.std.proofs.lemmas.Map.Keys.{IsStrictlyIncreasing-from_sorted}
use Rattle.plan_search.proofs.word_set.words_of.Goals as goal

-- the keys of a set ascend
pub returns-clause-ascending : goal.returns-clause-ascending
returns-clause-ascending c = IsStrictlyIncreasing-from_sorted c.args.words.now.keys
    c.into_iter-word-iterator.ensures.into_iter_gives.4
