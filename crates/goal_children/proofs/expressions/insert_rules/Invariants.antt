use Rattle.std.proofs.Common.{take}
use Rattle.goal_children.specs.Finding.{InsertsGoals}
use Rattle.goal_children.proofs.Rules.{IsOfRules}
use Rattle.goal_children.proofs.expressions.insert_rules.Given as goal

-- the goals of the rules before this one came to their places
abbrev pub invariant-loop-rule : goal.invariant-loop-rule
invariant-loop-rule l = InsertsGoals (IsOfRules l.query l.phase l.e (take l.rule-index l.rule-items))
    l.initial.goals.items l.goals.items
