use Rattle.std.proofs.Common.{subst, sym}
use Rattle.plan_search.specs.Natives.{AreListedFor, AreThoseFor}
use Rattle.plan_search.proofs.Able.{those_listed}
use Rattle.plan_search.proofs.requests.answer_group.Goals as goal

-- those for the distribution are listed
pub answer_dist-requires-clause-listed : goal.answer_dist-requires-clause-listed
answer_dist-requires-clause-listed c =
    let q = c.args.query.now in
    let dist = c.dist_at-dist.result in
    let those = c.in_ok-those.those.items in
    subst (AreListedFor q c.args.group dist) (sym c.deref-in-loop-number.ensures.value)
    (those_listed q dist c.args.group c.in_ok-list.list.items those
    (subst (λ l. AreThoseFor q dist l those) c.deref.ensures.value c.in_ok-those.ensures) c.in_ok-list.ensures)
