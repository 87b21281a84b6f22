use Rattle.std.proofs.Common.{ℕ, ◌<◌}
use Rattle.query_core.specs.declared.words.KeyParts.TheVariants.{Get}
use Rattle.plan_space.specs.declared.nodes.NodeKind.TheVariants.{Native}
use Rattle.plan_reading.specs.Texts.{AddsNodeTexts, IsOfKind}
use Rattle.plan_reading.proofs.texts.push_operator.Given as goal

-- the texts in the modes below this one were added
abbrev pub invariant-loop-mode : goal.invariant-loop-mode
invariant-loop-mode l = AddsNodeTexts l.query
    (λ node. (k : ℕ) × (k < l.mode) × IsOfKind (Native (record { group = Get l.fn.table; operator = l.fn.operator }) k) node)
    l.fn.texts.items l.texts.items
