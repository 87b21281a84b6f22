use Rattle.std.proofs.Common.{take}
use Rattle.query_core.specs.Connected.{AreLinked}
use Rattle.query_core.proofs.connected.lead.Given as goal

-- no link so far leads from the one set to the other
abbrev pub invariant-loop-link : goal.invariant-loop-link
invariant-loop-link l = AreLinked (take l.link-index l.links) l.from l.to → ⊥
