use Rattle.std.proofs.Common.{take}
use Rattle.goal_children.specs.Finding.{FindsFrom}
use Rattle.goal_children.proofs.Rules.{IsOfRules}
use Rattle.goal_children.proofs.expressions.rule_goal_from.Given as goal

-- of the rules before this one it is the first goal
abbrev pub invariant-loop-rule : goal.invariant-loop-rule
invariant-loop-rule l = FindsFrom (IsOfRules l.query l.phase l.e (take l.rule-index l.rule-items)) l.bound l.next
