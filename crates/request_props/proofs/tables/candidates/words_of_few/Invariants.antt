-- The words so far are all up to the one before.
use Rattle.request_props.proofs.CandidateLists.{left_after, AreUpTo}
use Rattle.request_props.proofs.tables.candidates.words_of_few.Given as goal

abbrev pub invariant-words : goal.invariant-words
invariant-words l = AreUpTo l.query l.group l.before l.words

abbrev pub decreases-words : goal.decreases-words
decreases-words l = left_after l.before
