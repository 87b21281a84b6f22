use Rattle.std.proofs.Common.{◌-◌, sym, subst, ◌∙◌, arith}
use Rattle.std.proofs.lemmas.Bool.{false≢true}
use Rattle.query_core.specs.Connected.{AreLinked}
use Rattle.xform_rules.specs.OneOrder.{IsCutTo, SplitsAfter, cut, less, associated}
use Rattle.xform_rules.proofs.Beginnings.{cut_less, begins_le, begins_within, begins_next, begins_cut, splits_begins}
use Rattle.xform_rules.proofs.Farthest.{whole_farthest, same_farthest, splits_farthest}
use Rattle.xform_rules.proofs.one_order.+farthest.Goals as goal
use Rattle.xform_rules.proofs.one_order.+farthest.Goals.{else-farthest-set-via-then-farthest-set+else-are_linked}
use Rattle.xform_rules.proofs.one_order.+farthest.Goals.{else-farthest-set-via-else-farthest-set}

-- a set that begins with less has a last cut
pub returns-in-None : goal.returns-in-None
returns-in-None t c =
    let (next, cuts) = begins_cut c.args.query.now c.args.set c.args.part c.requires.begins c.requires.more in
    absurd (c.in-None.ensures next cuts)

-- the last cut leaves the part
pub returns-then-part-next : goal.returns-then-part-next
returns-then-part-next t c =
    whole_farthest c.args.query.now c.args.set c.args.part
    (cut c.args.set c.args.part (subst (λ x. IsCutTo c.args.query.now c.args.set x) (sym c.if-part-next.true)
    c.in-Some.ensures))

-- what the cut leaves is less than the set
pub farthest-far-requires : goal.farthest-far-requires
farthest-far-requires t c =
    let begins = begins_next c.args.query.now c.args.set c.in-Some.next c.args.part c.in-Some.ensures c.requires.begins
    c.requires.more in (
      omega (
        arith,
        cut_less c.args.query.now c.args.set c.in-Some.next c.in-Some.ensures,
        begins_le c.args.query.now c.in-Some.next c.args.part begins,
        c.if-part-next.false,
        c.decreases,
      ),
      (begins, c.if-part-next.false),
    )

-- the farthest is more than the part, and less than the set
pub farthest-requires : goal.farthest-requires
farthest-requires t c =
    let below = cut_less c.args.query.now c.args.set c.in-Some.next c.in-Some.ensures in
    let within = begins_le c.args.query.now c.in-Some.next c.farthest-far.result c.farthest-far.ensures.begins in
    let above = (splits_begins c.args.query.now c.farthest-far.result c.args.part c.farthest-far.ensures.splits).1 in (
      omega (arith, below, within, above, c.decreases),
      (
        less c.args.set c.in-Some.next c.farthest-far.result c.in-Some.ensures c.farthest-far.ensures.begins,
        λ same. absurd (omega (arith, below, within, same)),
      ),
    )

pub are_linked-requires-clause-outer : goal.are_linked-requires-clause-outer
are_linked-requires-clause-outer t c =
    begins_within c.args.query.now c.args.set c.farthest-far.result
    (less c.args.set c.in-Some.next c.farthest-far.result c.in-Some.ensures c.farthest-far.ensures.begins)

pub are_linked-requires-clause-within : goal.are_linked-requires-clause-within
are_linked-requires-clause-within t c =
    begins_within c.args.query.now c.farthest-far.result c.args.part
    (splits_begins c.args.query.now c.farthest-far.result c.args.part c.farthest-far.ensures.splits).0

-- the set is joined after the farthest, and that after the part
pub returns-then-are_linked : goal.returns-then-are_linked
returns-then-are_linked t c =
    let q = c.args.query.now in
    let outer = (splits_farthest q c.args.set c.farthest-far.result c.farthest.result c.farthest.ensures).0
    c.if-farthest-set.true in
    whole_farthest q c.args.set c.args.part
    (associated c.args.set c.farthest-far.result c.args.part outer c.farthest-far.ensures.splits
    (c.are_linked.ensures.0 c.if-are_linked.true))

-- one of the two is missing, so what the cut leaves has the farthest
pub returns : goal.returns
returns t c =
    let q = c.args.query.now in
    let never : SplitsAfter q c.args.set c.farthest-far.result
    → AreLinked q.links (c.farthest-far.result - c.args.part) (c.args.set - c.farthest-far.result) → ⊥ =
    λ splits linked. elim c.else-farthest-set.branch [
      | else-farthest-set-via-then-farthest-set+else-are_linked w ↦
          false≢true (sym w.if-are_linked.false ∙ w.are_linked.ensures.1 linked)
      | else-farthest-set-via-else-farthest-set w ↦
          w.if-farthest-set.false ((splits_farthest q c.args.set c.farthest-far.result c.farthest.result
          c.farthest.ensures).1 splits)
    ] in
    same_farthest q c.args.set c.in-Some.next c.farthest-far.result c.args.part c.in-Some.ensures
    c.farthest-far.ensures.begins c.farthest-far.ensures.splits
    c.farthest-far.ensures.most c.if-part-next.false never
