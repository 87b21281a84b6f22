use Rattle.plan_reading.specs.Texts.{AddsNodeTexts, IsOfIndexes}
use Rattle.plan_reading.proofs.texts.push_indexes.Given as goal

-- those below this number were added
abbrev pub invariant-loop-index : goal.invariant-loop-index
invariant-loop-index l = AddsNodeTexts l.query (IsOfIndexes l.fn.table l.index) l.fn.texts.items l.texts.items
