use Rattle.std.proofs.Common.{◌⊎◌}
use Rattle.goal_children.specs.Choices.{IsOfEnforcer, IsOfRequest}
use Rattle.goal_children.proofs.Finds.{finds_as, sooner_is}
use Rattle.goal_children.proofs.choice.enforced_goal_from.Goals as goal

-- the sooner of the two
pub returns : goal.returns
returns c =
    let q = c.args.memo.query.now in
    let First = IsOfRequest c.args.group c.enforced_by-first.result.0 in
    let Second = IsOfRequest c.args.group c.enforced_by-first.result.1 in
    finds_as (λ k. First k ⊎ Second k) (IsOfEnforcer q c.args.group c.args.wanted) c.args.bound c.sooner.result
    (λ k. (c.enforced_by-first.ensures.exact k).1) (λ k. (c.enforced_by-first.ensures.exact k).0)
    (sooner_is First Second c.args.bound c.asked_of_group.result c.asked_of_group-2.result c.sooner.result
    c.sooner.ensures c.asked_of_group.ensures c.asked_of_group-2.ensures)
