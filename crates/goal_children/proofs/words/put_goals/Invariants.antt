use Rattle.std.proofs.Common.{take}
use Rattle.goal_children.specs.GoalLists.{HaveGoalWords}
use Rattle.goal_children.proofs.words.put_goals.Given as goal

-- the list has the goals of the words before this one
abbrev pub invariant-loop-word : goal.invariant-loop-word
invariant-loop-word l = HaveGoalWords (take l.word-index l.words) l.list.items
