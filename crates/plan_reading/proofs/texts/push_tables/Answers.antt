use Rattle.std.proofs.Common.{subst}
use Rattle.plan_reading.specs.Operators.{direct_operators}
use Rattle.plan_reading.specs.Texts.{AddsNodeTexts, IsOfAny, IsOfOperator, IsOfIndexes, IsOfTable, index_numbers}
use Rattle.plan_reading.proofs.AllTexts.{adds_start, adds_both, adds_next}
use Rattle.plan_reading.proofs.texts.push_tables.Goals as goal

pub loop-table-init : goal.loop-table-init
loop-table-init c = adds_start c.args.query.now IsOfTable _

pub loop-table-preserved : goal.loop-table-preserved
loop-table-preserved c =
    let t = c.loop-table.table in
    adds_next c.args.query.now IsOfTable t _ _ _ c.loop-table.invariant
    (adds_both c.args.query.now (IsOfAny (IsOfOperator t) direct_operators) (IsOfIndexes t index_numbers) _ _ _
    (subst (λ os. AddsNodeTexts c.args.query.now (IsOfAny (IsOfOperator t) os) c.loop-table.texts.items
    c.push_operators.new.texts.items)
    c.direct_operators.ensures c.in_ok-push_operators.ensures)
    c.in_ok-push_indexes.ensures)
