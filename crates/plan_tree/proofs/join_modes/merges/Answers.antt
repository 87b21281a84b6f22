-- There is such a predicate, where the set of them has one.
use Rattle.std.proofs.lemmas.Bool.{false_from_ne_true, not-true, not_from_false}
use Rattle.plan_tree.proofs.join_modes.merges.Goals as goal

pub returns : goal.returns
returns c = (
  λ some.
      let (pred, among) = c.is_empty.ensures.some (not-true c.is_empty.result some) in
      (pred, (c.merging.ensures pred).0 among),
  λ (pred, crosses).
      not_from_false c.is_empty.result (false_from_ne_true c.is_empty.result
      (λ empty. c.is_empty.ensures.none empty pred ((c.merging.ensures pred).1 crosses))),
)
