use Rattle.std.proofs.Common.{◌≡◌, take, filter}
use Rattle.job_outcome.specs.Searched.{is_member_word}
use Rattle.job_outcome.proofs.lists.members_of.Given as goal

-- the members among the words before this one
abbrev pub invariant-loop-word : goal.invariant-loop-word
invariant-loop-word l = l.members.items ≡ filter is_member_word (take l.word-index l.cells)
