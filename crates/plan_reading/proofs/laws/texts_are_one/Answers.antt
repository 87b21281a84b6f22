-- No two nodes that the query can name have one text.
use Rattle.std.proofs.Common.{arith}
use Rattle.plan_reading.proofs.Nodes.{named_one}
use Rattle.plan_reading.proofs.OperatorRows.{index_known}
use Rattle.plan_reading.proofs.laws.texts_are_one.Goals as goal

pub returns : goal.returns
returns c = λ q a b in_a in_b same.
    named_one q c.listing_is_one.ensures
    (λ t i has. let few = (index_known q (c.candidates_are_known.ensures.packed q) t i has).1 in omega (arith, few))
    a b in_a in_b same
