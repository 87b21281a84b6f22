use Rattle.std.proofs.Common.{sym, ◌∙◌, arith}
use Rattle.std.proofs.lemmas.Bool.{false≢true, eqb-true, eq-eqb}
use Rattle.xform_rules.proofs.Beginnings.{splits_begins}
use Rattle.xform_rules.proofs.Farthest.{splits_farthest}
use Rattle.xform_rules.proofs.one_order.splits_after.Goals as goal
use Rattle.xform_rules.proofs.one_order.splits_after.Goals.{then-part-set-via-then-part-set}
use Rattle.xform_rules.proofs.one_order.splits_after.Goals.{then-part-set-via-else-part-set+then-not-begins_with}

-- the part of a join is a beginning, and not the whole set
pub returns-then-part-set : goal.returns-then-part-set
returns-then-part-set c = (
  λ never. absurd (false≢true never),
  λ splits.
      let own = splits_begins c.args.query.now c.args.set c.args.part splits in
      elim c.then-part-set.branch [
        | then-part-set-via-then-part-set w ↦ absurd (omega (arith, w.if-part-set.true, own.1))
        | then-part-set-via-else-part-set+then-not-begins_with w ↦
            absurd (false≢true (sym w.if-not-begins_with.true ∙ w.begins_with.ensures.1 own.0))
      ],
)

-- the whole set is the farthest exactly where it is joined after the part
pub returns : goal.returns
returns c =
    let farthest = splits_farthest c.args.query.now c.args.set c.args.part c.farthest.result c.farthest.ensures in (
      λ yes. farthest.0 (eqb-true c.farthest.result c.args.set yes),
      λ splits.
          eq-eqb c.farthest.result c.args.set (farthest.1 splits),
    )
