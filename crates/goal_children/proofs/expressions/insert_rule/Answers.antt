use Rattle.std.proofs.Common.{◌≡◌, true, false}
use Rattle.std.proofs.lemmas.Result.{on_ok_weaker}
use Rattle.goal_space.specs.declared.goals.GoalKind.TheVariants.{Xf}
use Rattle.goal_space.specs.Phases.{IsOfRule}
use Rattle.goal_children.proofs.Inserting.{inserts_as, inserts_nothing}
use Rattle.goal_children.proofs.expressions.insert_rule.Goals as goal

-- it is of the phase and applies
pub returns-then-tries : goal.returns-then-tries
returns-then-tries c =
    let tried = c.tries.ensures.0 c.if-tries.true in
    record {
      ok = on_ok_weaker c.insert_goal.result
          (inserts_as (λ k. k ≡ Xf c.args.e c.args.rule) (IsOfRule c.args.query.now c.args.phase c.args.e c.args.rule)
          c.args.goals.now.items
          c.insert_goal.new.goals.items (λ k same. (tried, same)) (λ k (tried, same). same))
          c.insert_goal.ensures.ok;
    }

-- or it has no goal
pub returns-else-tries : goal.returns-else-tries
returns-else-tries c = record {
  ok = inserts_nothing (IsOfRule c.args.query.now c.args.phase c.args.e c.args.rule) c.args.goals.now.items
      (λ k (tried, same).
      let yes : c.tries.result ≡ true = c.tries.ensures.1 tried in
      let no : c.tries.result ≡ false = c.if-tries.false in
      cc);
}
