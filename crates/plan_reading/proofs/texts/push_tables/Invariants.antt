use Rattle.plan_reading.specs.Texts.{AddsNodeTexts, IsOfTables}
use Rattle.plan_reading.proofs.texts.push_tables.Given as goal

-- those below this number were added
abbrev pub invariant-loop-table : goal.invariant-loop-table
invariant-loop-table l = AddsNodeTexts l.query (IsOfTables l.table) l.fn.texts.items l.texts.items
