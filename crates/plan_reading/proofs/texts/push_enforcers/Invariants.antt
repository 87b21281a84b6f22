use Rattle.std.proofs.Common.{ℕ, ◌<◌}
use Rattle.plan_reading.specs.Texts.{AddsNodeTexts, IsOfEnforcer}
use Rattle.plan_reading.proofs.AllTexts.{IsOfPlace}
use Rattle.plan_reading.proofs.texts.push_enforcers.Given as goal

-- those of the enforcers before this one were added
abbrev pub invariant-loop-enforcer : goal.invariant-loop-enforcer
invariant-loop-enforcer l = AddsNodeTexts l.query
    (λ node. (k : ℕ) × (k < l.enforcer-index) × IsOfPlace l.query IsOfEnforcer l.enforcers k node) l.fn.texts.items
    l.texts.items
