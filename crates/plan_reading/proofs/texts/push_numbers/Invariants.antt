use Rattle.plan_reading.specs.Texts.{AddsNodeTexts, IsOfNumbers}
use Rattle.plan_reading.proofs.texts.push_numbers.Given as goal

-- those below this number were added
abbrev pub invariant-loop-number : goal.invariant-loop-number
invariant-loop-number l = AddsNodeTexts l.query (IsOfNumbers l.number) l.fn.texts.items l.texts.items
