use Rattle.std.proofs.Common.{refl, sym, subst}
use Rattle.std.proofs.lemmas.Bool.{false≢true}
use Rattle.xform_rules.specs.OneOrder.{CutsDownTo, begun, less}
use Rattle.xform_rules.proofs.Beginnings.{begins_next, begins_cut}
use Rattle.xform_rules.proofs.one_order.begins_with.Goals as goal

-- a part that isn't all that is left is a beginning of what the cut leaves
pub loop-left-preserved : goal.loop-left-preserved
loop-left-preserved c = record {
  onto = λ begins. c.loop-left.invariant.onto
      (less c.loop-left.left c.in-Some.next c.args.part c.in-Some.ensures begins);
  back = λ begins.
      begins_next c.args.query.now c.loop-left.left c.in-Some.next c.args.part c.in-Some.ensures
      (c.loop-left.invariant.back begins)
      (λ same. c.loop-left-test.true (sym same));
}

-- without a cut there is nothing less
pub returns-in-None : goal.returns-in-None
returns-in-None c = (
  λ never. absurd (false≢true never),
  λ begins.
      let (next, cuts) = begins_cut c.args.query.now c.loop-left.left c.args.part (c.loop-left.invariant.back begins)
      (λ same. c.loop-left-test.true (sym same)) in
      absurd (c.in-None.ensures next cuts),
)

-- what is left begins with itself
pub returns : goal.returns
returns c = (
  λ yes. c.loop-left.invariant.onto (subst (CutsDownTo c.args.query.now c.loop-left.left) c.loop-left-test.false
      (begun c.loop-left.left)),
  λ begins. refl,
)
