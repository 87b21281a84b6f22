use Rattle.std.proofs.Common.{subst}
use Rattle.plan_reading.specs.Texts.{AddsNodeTexts, IsOfAny, IsOfEnforcer, enforcers_by}
use Rattle.plan_reading.proofs.AllTexts.{adds_start, adds_next}
use Rattle.plan_reading.proofs.texts.push_numbers.Goals as goal

pub loop-number-init : goal.loop-number-init
loop-number-init c = adds_start c.args.query.now (λ n. IsOfAny IsOfEnforcer (enforcers_by n)) _

pub loop-number-preserved : goal.loop-number-preserved
loop-number-preserved c = adds_next c.args.query.now (λ n. IsOfAny IsOfEnforcer (enforcers_by n)) c.loop-number.number _ _ _
    c.loop-number.invariant
    (subst (λ es. AddsNodeTexts c.args.query.now (IsOfAny IsOfEnforcer es) c.loop-number.texts.items
    c.push_enforcers.new.texts.items)
    c.enforcers_by.ensures c.in_ok-push_enforcers.ensures)
