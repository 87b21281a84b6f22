use Rattle.std.proofs.Common.{◌≡◌, take}
use Rattle.std.specs.List.{All}
use Rattle.plan_reading.specs.declared.texts.NodeText.{NodeText}
use Rattle.plan_reading.proofs.reader.node_named.Given as goal

abbrev pub invariant-loop-entry : goal.invariant-loop-entry
invariant-loop-entry l = All (λ (e : NodeText). e.text ≡ l.fn.text → ⊥) (take l.entry-index l.fn.texts)
