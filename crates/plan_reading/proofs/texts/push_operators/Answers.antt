use Rattle.std.proofs.Common.{arith}
use Rattle.plan_reading.specs.Texts.{IsOfOperator}
use Rattle.plan_reading.proofs.AllTexts.{IsOfPlace, adds_start, place_next, places_all}
use Rattle.plan_reading.proofs.texts.push_operators.Goals as goal

pub loop-operator-init : goal.loop-operator-init
loop-operator-init c =
    adds_start c.args.query.now (IsOfPlace c.args.query.now (IsOfOperator c.args.table) c.args.operators.now) _

pub loop-operator-preserved : goal.loop-operator-preserved
loop-operator-preserved c = place_next c.args.query.now (IsOfOperator c.args.table) c.args.operators.now c.loop-operator.operator-index
    _ _ _ _ c.loop-operator-test.true c.loop-operator.invariant c.in_ok-push_operator.ensures

pub returns : goal.returns
returns c = places_all c.args.query.now (IsOfOperator c.args.table) c.args.operators.now c.loop-operator.operator-index _ _
    (omega (arith, c.loop-operator-test.false)) c.loop-operator.invariant
