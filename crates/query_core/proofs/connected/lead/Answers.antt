use Rattle.std.proofs.Common.{subst}
use Rattle.std.proofs.lemmas.List.{take_all}
use Rattle.query_core.specs.Connected.{AreLinked}
use Rattle.query_core.proofs.Reach.{lead_at, linked_more}
use Rattle.query_core.proofs.connected.lead.Goals as goal

-- this link doesn't lead there either
pub loop-link-preserved : goal.loop-link-preserved
loop-link-preserved c =
    linked_more c.args.links.now c.loop-link.link-index _ c.args.from c.args.to c.loop-link-test.true
    c.loop-link.invariant c.in_default.ensures

-- the link is one of the links
pub returns-in-Some : goal.returns-in-Some
returns-in-Some c =
    lead_at c.args.links.now c.loop-link.link-index _ c.args.from c.args.to c.in-Some.table c.loop-link-test.true
    c.in-Some.ensures

-- no link is left
pub returns : goal.returns
returns c =
    subst (λ links. AreLinked links c.args.from c.args.to → ⊥)
    (take_all c.loop-link.link-index c.args.links.now c.loop-link-test.false) c.loop-link.invariant
