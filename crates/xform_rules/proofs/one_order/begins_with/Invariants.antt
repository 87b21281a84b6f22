use Rattle.xform_rules.specs.OneOrder.{CutsDownTo}
use Rattle.xform_rules.proofs.one_order.begins_with.Given as goal

-- the set begins with what is left, and with the part exactly where that does
abbrev pub invariant-loop-left : goal.invariant-loop-left
invariant-loop-left l = record {
  onto : CutsDownTo l.query l.left l.part → CutsDownTo l.query l.set l.part;
  back : CutsDownTo l.query l.set l.part → CutsDownTo l.query l.left l.part;
}

abbrev pub decreases-loop-left : goal.decreases-loop-left
decreases-loop-left l = l.left
