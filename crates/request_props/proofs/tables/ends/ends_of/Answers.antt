use Rattle.std.proofs.Common.{ap, arith, length, subst, ◌≡◌, ◌∙◌}
use Rattle.std.proofs.lemmas.List.{length-map}
use Rattle.request_props.specs.Counted.{IsAmong}
use Rattle.request_props.specs.Ends.{AreEndsBelow}
use Rattle.request_props.specs.Numbered.{equality_of}
use Rattle.request_props.proofs.PredicateEnds.{have_numbers, none_below, ends_more}
use Rattle.request_props.proofs.tables.ends.ends_of.Goals as goal

pub loop-pred-init : goal.loop-pred-init
loop-pred-init c = none_below c.args.query.now (IsAmong c.args.query.now c.args.columns) _ c.none-ends.ensures.first
    c.none-ends.ensures.second

pub with_ends-ends-requires-clause-few : goal.with_ends-ends-requires-clause-few
with_ends-ends-requires-clause-few c =
    let q = c.args.query.now in
    omega (arith, ap length c.requires ∙ length-map q.preds (equality_of q), q.preds_valid.few)

pub with_ends-ends-requires-clause-numbers : goal.with_ends-ends-requires-clause-numbers
with_ends-ends-requires-clause-numbers c =
    have_numbers c.args.query.now c.args.equalities.now c.requires c.loop-pred.pred

pub loop-pred-preserved : goal.loop-pred-preserved
loop-pred-preserved c =
    ends_more c.args.query.now (IsAmong c.args.query.now c.args.columns) c.args.equalities.now c.requires
    c.loop-pred.pred c.loop-pred.ends c.with_ends-ends.result c.loop-pred.invariant
    c.with_ends-ends.ensures.first c.with_ends-ends.ensures.second

pub returns : goal.returns
returns c =
    let q = c.args.query.now in
    let count : c.loop-pred.pred ≡ length q.preds =
    omega (arith, ap length c.requires ∙ length-map q.preds (equality_of q)) in
    subst (λ n. AreEndsBelow q (IsAmong q c.args.columns) n c.loop-pred.ends) count c.loop-pred.invariant
