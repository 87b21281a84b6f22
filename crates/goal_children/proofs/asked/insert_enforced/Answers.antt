use Rattle.std.proofs.Common.{◌⊎◌}
use Rattle.goal_children.specs.Choices.{IsOfEnforcer, IsOfRequest}
use Rattle.goal_children.proofs.Inserting.{inserts_as, inserts_both}
use Rattle.goal_children.proofs.asked.insert_enforced.Goals as goal

-- both come, one after the other
pub returns : goal.returns
returns c =
    let First = IsOfRequest c.args.group c.enforced_by-first.result.0 in
    let Second = IsOfRequest c.args.group c.enforced_by-first.result.1 in
    record {
      ok = inserts_as (λ k. First k ⊎ Second k) (IsOfEnforcer c.args.memo.query.now c.args.group c.args.wanted)
          c.args.goals.now.items c.insert_request-2.new.goals.items
          (λ k. (c.enforced_by-first.ensures.exact k).1) (λ k. (c.enforced_by-first.ensures.exact k).0)
          (inserts_both First Second c.args.goals.now.items c.insert_request.new.goals.items
          c.insert_request-2.new.goals.items c.in_ok-insert_request.ensures.ok c.in_ok-insert_request-2.ensures.ok);
    }
