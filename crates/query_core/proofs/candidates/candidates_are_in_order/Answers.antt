use Rattle.std.proofs.Common.{arith}
use Rattle.query_core.specs.declared.expressions.ExprParts.{ExprParts}
use Rattle.query_core.proofs.CandidateOrder.{logical_first, middles_rise}
use Rattle.query_core.proofs.ExpressionLemmas.{word_some}
use Rattle.query_core.proofs.candidates.candidates_are_in_order.Goals as goal

pub returns : goal.returns
returns c = record {
  rise = middles_rise;
  few = λ (e : ExprParts). omega arith;
  logical_first = logical_first;
  some = word_some;
}
