use Rattle.std.proofs.Common.{map, take}
use Rattle.query_core.specs.Expressions.{word_of}
use Rattle.goal_children.specs.Finding.{AppendsGoals}
use Rattle.goal_children.specs.MemberJobs.{IsGoalAmong}
use Rattle.goal_children.proofs.members.push_goals_of.Given as goal

-- the goals of the expressions before this one came to the end
abbrev pub invariant-loop-e : goal.invariant-loop-e
invariant-loop-e l = AppendsGoals (IsGoalAmong l.memo.query.now l.job (take l.e-index (map word_of l.exprs)))
    l.initial.goals.items l.goals.items
