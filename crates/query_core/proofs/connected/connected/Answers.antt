use Rattle.std.proofs.Common.{eq-eqb, eqb-true, subst}
use Rattle.query_core.specs.Connected.{IsReached}
use Rattle.query_core.proofs.Reach.{connected_from, whole_from}
use Rattle.query_core.proofs.connected.connected.Goals as goal

-- the set is connected exactly where its least table reaches all of it
pub returns-in-Some : goal.returns-in-Some
returns-in-Some c = (
  λ same. connected_from c.args.links.now c.args.set c.in-Some.table
      (subst (λ found. IsReached c.args.links.now c.args.set c.in-Some.table found)
      (eqb-true c.reached.result c.args.set same) c.reached.ensures),
  λ connected. eq-eqb c.reached.result c.args.set
      (whole_from c.args.links.now c.args.set c.in-Some.table c.reached.result c.in-Some.ensures.here c.reached.ensures
      connected),
)
