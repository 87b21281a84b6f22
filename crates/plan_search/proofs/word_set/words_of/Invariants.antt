use Rattle.std.proofs.Common.{◌≡◌, ◌++◌}
use Rattle.plan_search.proofs.word_set.words_of.Given as goal

-- the words so far, and those that are left
abbrev pub invariant-loop-word : goal.invariant-loop-word
invariant-loop-word l = l.list.items ++ l.word-iterator ≡ l.words.keys
