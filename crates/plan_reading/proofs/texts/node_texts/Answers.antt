-- All texts were added.
use Rattle.std.proofs.Common.{length, subst}
use Rattle.plan_reading.specs.Texts.{IsOfAny, IsOfEnforcer, IsOfNumbers, IsOfTables, moves, AddsNodeTexts}
use Rattle.plan_reading.proofs.AllTexts.{adds_three, are_all}
use Rattle.plan_reading.proofs.OperatorRows.{index_known}
use Rattle.plan_reading.proofs.texts.node_texts.Goals as goal

pub returns : goal.returns
returns c =
    let q = c.args.query.now in
    are_all q c.requires.few_lists c.requires.few_orders (index_known q (c.candidates_are_known.ensures.packed q)) _ _
    c.new-texts.ensures.items
    (adds_three q (IsOfAny IsOfEnforcer moves) (IsOfNumbers 61) (IsOfTables (length q.tables)) _ _ _ _
    (subst (λ es. AddsNodeTexts q (IsOfAny IsOfEnforcer es) c.new-texts.result.items c.push_enforcers.new.texts.items)
    c.moves.ensures c.in_ok-push_enforcers.ensures)
    c.in_ok-push_numbers.ensures c.in_ok-push_tables.ensures)
