use Rattle.std.proofs.Common.{arith}
use Rattle.plan_reading.specs.Texts.{IsOfEnforcer}
use Rattle.plan_reading.proofs.AllTexts.{IsOfPlace, adds_start, place_next, places_all}
use Rattle.plan_reading.proofs.texts.push_enforcers.Goals as goal

pub loop-enforcer-init : goal.loop-enforcer-init
loop-enforcer-init c =
    adds_start c.args.query.now (IsOfPlace c.args.query.now IsOfEnforcer c.args.enforcers.now) _

pub loop-enforcer-preserved : goal.loop-enforcer-preserved
loop-enforcer-preserved c = place_next c.args.query.now IsOfEnforcer c.args.enforcers.now c.loop-enforcer.enforcer-index
    _ _ _ _ c.loop-enforcer-test.true c.loop-enforcer.invariant c.in_ok-push_kind.ensures

pub returns : goal.returns
returns c = places_all c.args.query.now IsOfEnforcer c.args.enforcers.now c.loop-enforcer.enforcer-index _ _
    (omega (arith, c.loop-enforcer-test.false)) c.loop-enforcer.invariant
