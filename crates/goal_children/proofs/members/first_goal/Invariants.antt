use Rattle.std.proofs.Common.{take}
use Rattle.goal_children.specs.MemberJobs.{HaveNoGoals}
use Rattle.goal_children.proofs.members.first_goal.Given as goal

-- none before this word has a goal
abbrev pub invariant-loop-word : goal.invariant-loop-word
invariant-loop-word l = HaveNoGoals l.memo.query.now l.job (take l.word-index l.words)
