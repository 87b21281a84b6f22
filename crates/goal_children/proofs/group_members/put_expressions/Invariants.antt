use Rattle.std.proofs.Common.{take}
use Rattle.goal_children.specs.GroupMembers.{AreOfWords}
use Rattle.goal_children.proofs.group_members.put_expressions.Given as goal

-- the list has the expressions of the words before this one
abbrev pub invariant-loop-word : goal.invariant-loop-word
invariant-loop-word l = AreOfWords (take l.word-index l.words) l.list.items
