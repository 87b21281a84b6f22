use Rattle.std.proofs.Common.{subst}
use Rattle.query_core.specs.Expressions.{children_of}
use Rattle.query_core.specs.declared.expressions.Children.{Children}
use Rattle.goal_space.specs.Phases.{IsOfGroups, IsRuleAt}
use Rattle.goal_children.specs.Finding.{InsertsGoals}
use Rattle.goal_children.proofs.Inserting.{inserts_both}
use Rattle.goal_children.proofs.expressions.insert_transformed.Goals as goal

-- groups, and then rules
pub returns : goal.returns
returns c =
    let old = c.args.goals.now.items in
    let middle = c.insert_groups.new.goals.items in
    record {
      ok = inserts_both (IsOfGroups c.args.phase (children_of c.args.e.operator))
          (IsRuleAt c.args.query.now c.args.phase c.args.e) old middle
          c.insert_rules.new.goals.items
          (subst (λ (x : Children). InsertsGoals (IsOfGroups c.args.phase x) old middle) c.children.ensures
          c.in_ok-insert_groups.ensures.ok) c.in_ok-insert_rules.ensures.ok;
    }
