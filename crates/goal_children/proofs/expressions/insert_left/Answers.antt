use Rattle.std.proofs.Common.{◌≡◌, ◌∙◌, true, false, subst, sym}
use Rattle.std.proofs.lemmas.Result.{on_ok_weaker}
use Rattle.query_core.specs.Expressions.{children_of}
use Rattle.query_core.specs.declared.expressions.Children.{Children}
use Rattle.goal_children.specs.Finding.{InsertsGoals, IsOfLeft, IsOfLeftGroup}
use Rattle.goal_children.proofs.Inserting.{inserts_as, inserts_nothing}
use Rattle.goal_children.proofs.expressions.insert_left.Goals as goal

-- the rule binds a member of the left group
pub returns-then-binds : goal.returns-then-binds
returns-then-binds c =
    let is_it = sym c.binds.ensures ∙ c.if-binds.true in
    let old = c.args.goals.now.items in
    let new = c.insert_left_group.new.goals.items in
    let children = children_of c.args.e.operator in
    record {
      ok = on_ok_weaker c.insert_left_group.result
          (λ inserts. inserts_as (IsOfLeftGroup children) (IsOfLeft c.args.e c.args.rule children) old new
          (λ k (group, left, same). (group, is_it, left, same))
          (λ k (group, again, left, same). (group, left, same))
          (subst (λ (x : Children). InsertsGoals (IsOfLeftGroup x) old new) c.children.ensures inserts))
          c.insert_left_group.ensures.ok;
    }

-- or it waits for nothing
pub returns-else-binds : goal.returns-else-binds
returns-else-binds c = record {
  ok = inserts_nothing (IsOfLeft c.args.e c.args.rule (children_of c.args.e.operator)) c.args.goals.now.items
      (λ k (group, is_it, left, same).
      let yes : c.binds.result ≡ true = c.binds.ensures ∙ is_it in
      let no : c.binds.result ≡ false = c.if-binds.false in
      cc);
}
