use Rattle.std.proofs.Common.{◌≡◌, ◌<◌, length, slice_index_or, subst}
use Rattle.std.proofs.lemmas.Result.{IfOk-weaker}
use Rattle.batch_search.proofs.Ending.{props_here, ends_here}
use Rattle.batch_search.proofs.queries.QueryBatchBatch.run.Goals as goal

pub search_alone-requires-clause-props : goal.search_alone-requires-clause-props
search_alone-requires-clause-props c =
    let e : c.args.self.now ≡ (c.self.inside.queries.now, c.self.inside.capacity) = cc in
    props_here _ _ c.args.item _ _ c.self.invariant.1 (subst (λ v. c.args.item < length v.0) e c.requires)

pub listed-requires : goal.listed-requires
listed-requires c = (
  slice_index_or c.self.inside.queries.now c.args.item c.index-self-at.result,
  c.self.inside.capacity,
  c.in_ok-outcome.ensures.ends,
)

pub returns : goal.returns
returns c =
    let e : c.args.self.now ≡ (c.self.inside.queries.now, c.self.inside.capacity) = cc in
    let q = c.index-self-at.result in
    ends_here c.self.inside.queries.now c.self.inside.capacity c.args.item c.args.self.now q c.listed.result e
    (subst (λ v. c.args.item < length v.0) e c.requires)
    (IfOk-weaker c.listed.result _ _
    (λ made ends. ends (slice_index_or c.self.inside.queries.now c.args.item q) c.self.inside.capacity
    c.in_ok-outcome.ensures.ends)
    c.listed.ensures)
