-- A text is read in one way, its lines are those of one plan, and the plan's own numbers are one.
use Rattle.text_check.proofs.OneOutcome.{one_outcome}
use Rattle.text_check.proofs.laws.outcomes_are_one.Goals as goal

pub returns : goal.returns
returns c = λ q text a b in_a in_b x y.
    one_outcome q (record {
      formed = c.readings_are_one.ensures.formed q;
      fault = c.readings_are_one.ensures.fault q;
      apart = c.readings_are_one.ensures.apart q;
      read = c.plans_are_read.ensures.read q;
      spelled = c.plans_are_read.ensures.spelled q;
      one = c.outlines_are_one.ensures q;
      plan_tree = c.plans_are_one.ensures.valid q;
      known = c.members_are_candidates.ensures q;
    }) text a b in_a in_b x y
