-- An outline is that of one list of plans.
use Rattle.plan_reading.proofs.Forests.{forests_one}
use Rattle.plan_reading.proofs.laws.outlines_are_one.Goals as goal

pub returns : goal.returns
returns c = λ q depth a b in_a in_b same. forests_one q (c.sides_are_known.ensures.tables q) depth a b in_a in_b same
