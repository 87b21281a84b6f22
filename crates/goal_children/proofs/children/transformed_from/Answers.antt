use Rattle.std.proofs.Common.{subst}
use Rattle.query_core.specs.declared.expressions.Children.{Children}
use Rattle.goal_space.specs.Phases.{IsOfGroups, IsRuleAt}
use Rattle.goal_children.specs.Finding.{FindsFrom}
use Rattle.query_core.specs.Expressions.{children_of}
use Rattle.goal_children.proofs.Finds.{found_in_range, sooner_is}
use Rattle.goal_children.proofs.children.transformed_from.Goals as goal

pub sooner-requires-clause-a : goal.sooner-requires-clause-a
sooner-requires-clause-a c = found_in_range (IsOfGroups c.args.phase c.children.result) c.args.bound
    c.group_goal_from.result c.group_goal_from.ensures

pub sooner-requires-clause-b : goal.sooner-requires-clause-b
sooner-requires-clause-b c =
    found_in_range (IsRuleAt c.args.query.now c.args.phase c.args.e) c.args.bound c.rule_goal_from.result
    c.rule_goal_from.ensures

pub returns : goal.returns
returns c =
    sooner_is (IsOfGroups c.args.phase (children_of c.args.e.operator))
    (IsRuleAt c.args.query.now c.args.phase c.args.e) c.args.bound
    c.group_goal_from.result c.rule_goal_from.result c.sooner.result c.sooner.ensures
    (subst (λ (x : Children). FindsFrom (IsOfGroups c.args.phase x) c.args.bound c.group_goal_from.result)
    c.children.ensures c.group_goal_from.ensures) c.rule_goal_from.ensures
