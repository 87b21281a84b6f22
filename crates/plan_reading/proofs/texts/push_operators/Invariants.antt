use Rattle.std.proofs.Common.{ℕ, ◌<◌}
use Rattle.plan_reading.specs.Texts.{AddsNodeTexts, IsOfOperator}
use Rattle.plan_reading.proofs.AllTexts.{IsOfPlace}
use Rattle.plan_reading.proofs.texts.push_operators.Given as goal

-- those of the operators before this one were added
abbrev pub invariant-loop-operator : goal.invariant-loop-operator
invariant-loop-operator l = AddsNodeTexts l.query
    (λ node. (k : ℕ) × (k < l.operator-index) × IsOfPlace l.query (IsOfOperator l.fn.table) l.operators k node) l.fn.texts.items
    l.texts.items
