-- The sets of one more candidate are found.
use Rattle.std.proofs.Common.{◌≡◌, ◌+◌, [], ◌∷◌, length, length-append, ap, ◌∙◌, arith}
use Rattle.request_props.proofs.JoinSetLemmas.{sets_more}
use Rattle.request_props.proofs.props.Props.sets_of_all.Goals as goal

pub loop-candidate-preserved : goal.loop-candidate-preserved
loop-candidate-preserved c = record {
  count =
      let grown : length c.push.new.self ≡ length c.loop-candidate.sets + 1 = ap length c.in_ok-push.ensures.ok
      ∙ length-append c.loop-candidate.sets (c.sets_of.result ∷ []) in
      omega (arith, grown, c.loop-candidate.invariant.count);
  each = sets_more c.args.query.now c.args.candidates.now c.loop-candidate.sets c.push.new.self
      c.loop-candidate.candidate-index _ c.sets_of.result c.in_ok-push.ensures.ok c.loop-candidate.invariant.count
      c.loop-candidate-test.true c.sets_of.ensures c.loop-candidate.invariant.each;
}
