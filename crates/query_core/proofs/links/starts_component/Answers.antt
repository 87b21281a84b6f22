use Rattle.std.proofs.Common.{subst, sym, eqb-true, eq-eqb}
use Rattle.query_core.specs.Sets.{Has}
use Rattle.query_core.specs.Connected.{IsReached, here}
use Rattle.query_core.proofs.Bits.{bit-first}
use Rattle.query_core.proofs.Linking.{starts_from}
use Rattle.query_core.proofs.links.starts_component.Goals as goal

-- the table is among those of the query
pub reached-requires : goal.reached-requires
reached-requires c = subst (λ all. Has all c.args.table) (sym c.first.ensures)
    (bit-first c.args.count c.args.table c.requires.there)

pub returns-in-Some : goal.returns-in-Some
returns-in-Some c =
    let reached = subst (λ all. IsReached c.args.made.now all c.args.table c.reached.result) c.first.ensures
    c.reached.ensures in
    let same = starts_from c.args.count c.args.made.now c.args.table c.reached.result c.in-Some.found
    c.requires.not_first c.requires.there reached c.in-Some.ensures in (
      λ equal. same.0 (eqb-true c.in-Some.found c.args.table equal),
      λ starts.
          eq-eqb c.in-Some.found c.args.table (same.1 starts),
    )

-- the table reaches itself at least
pub returns-in-None : goal.returns-in-None
returns-in-None c =
    let own : Has c.first.result c.args.table =
    subst (λ all. Has all c.args.table) (sym c.first.ensures)
    (bit-first c.args.count c.args.table c.requires.there) in
    absurd (c.in-None.ensures c.args.table (c.reached.ensures.complete c.args.table (here own)))
