use Rattle.std.proofs.Common.{ap, sym, ◌∙◌}
use Rattle.query_core.specs.Crossing.{crossing_at, sides_with}
use Rattle.query_core.proofs.Lookups.{found_at, none_at}
use Rattle.query_core.proofs.query.Query.crossing_groups.Goals as goal

-- no predicate has the number
pub returns-in_err-pred : goal.returns-in_err-pred
returns-in_err-pred c =
    c.from_residual.ensures
    ∙ sym (ap (crossing_at c.args.self.now c.args.left c.args.right)
    (none_at c.args.self.now.preds c.as_slice.result.now c.args.pred c.as_slice.ensures c.in_err-pred.ensures.lookup.3))

-- the predicate equates no two items
pub returns-in_err-other : goal.returns-in_err-other
returns-in_err-other c =
    let q = c.args.self.now in
    let left = c.args.left in
    let right = c.args.right in
    c.from_residual-in_err-other.ensures
    ∙ (ap (sides_with q left right c.in_ok-pred.pred.now.left) c.in_err-other.ensures
    ∙ sym (ap (crossing_at q left right)
    (found_at q.preds c.as_slice.result.now c.args.pred c.in_ok-pred.pred.now c.as_slice.ensures
    c.in_ok-pred.ensures.lookup.3.0 c.in_ok-pred.ensures.lookup.1)))

-- the predicate's items are looked for in both groups
pub returns : goal.returns
returns c =
    let q = c.args.self.now in
    let left = c.args.left in
    let right = c.args.right in
    c.sides.ensures
    ∙ (ap (sides_with q left right c.in_ok-pred.pred.now.left) (sym c.in_ok-other.was ∙ c.equal_item.ensures)
    ∙ sym (ap (crossing_at q left right)
    (found_at q.preds c.as_slice.result.now c.args.pred c.in_ok-pred.pred.now c.as_slice.ensures
    c.in_ok-pred.ensures.lookup.3.0 c.in_ok-pred.ensures.lookup.1)))
