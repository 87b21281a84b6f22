use Rattle.query_core.specs.Keys.{NamesGroup}
use Rattle.goal_children.proofs.Enforced.{below_in_range, enforced_exact}
use Rattle.goal_children.proofs.choice.enforced_by.Goals as goal

pub returns : goal.returns
returns c =
    let q = c.args.memo.query.now in
    let known : NamesGroup q c.make-key.result c.args.group =
    record { number = c.make-key.ensures.number; known = c.requires.goal.of_candidate } in
    let first = c.enforcer.ensures.at_place c.args.group known in
    let second = c.enforcer-2.ensures.at_place c.args.group known in
    record {
      exact = enforced_exact q c.args.group c.args.wanted c.enforcer.result c.enforcer-2.result c.below-first.result
          c.below-second.result first second c.below-first.ensures c.below-second.ensures;
      first = below_in_range q c.requires.memo.collected.few_lists c.requires.memo.collected.few_orders c.args.group
          c.args.wanted 0 c.enforcer.result c.below-first.result c.requires.goal.numbered first c.below-first.ensures;
      second = below_in_range q c.requires.memo.collected.few_lists c.requires.memo.collected.few_orders c.args.group
          c.args.wanted 1 c.enforcer-2.result c.below-second.result c.requires.goal.numbered second
          c.below-second.ensures;
    }
