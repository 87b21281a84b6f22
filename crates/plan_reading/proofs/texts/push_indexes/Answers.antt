use Rattle.std.proofs.Common.{subst}
use Rattle.plan_reading.specs.Operators.{index_operators}
use Rattle.plan_reading.specs.Texts.{AddsNodeTexts, IsOfAny, IsOfOperator}
use Rattle.plan_reading.proofs.AllTexts.{adds_start, adds_next}
use Rattle.plan_reading.proofs.texts.push_indexes.Goals as goal

pub loop-index-init : goal.loop-index-init
loop-index-init c = adds_start c.args.query.now (λ i. IsOfAny (IsOfOperator c.args.table) (index_operators i)) _

pub loop-index-preserved : goal.loop-index-preserved
loop-index-preserved c = adds_next c.args.query.now (λ i. IsOfAny (IsOfOperator c.args.table) (index_operators i))
    c.loop-index.index _ _ _ c.loop-index.invariant
    (subst (λ os. AddsNodeTexts c.args.query.now (IsOfAny (IsOfOperator c.args.table) os) c.loop-index.texts.items
    c.push_operators.new.texts.items)
    c.index_operators.ensures c.in_ok-push_operators.ensures)
