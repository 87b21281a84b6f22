use Rattle.std.proofs.Common.{◌↔◌, ℕ, Option, IsTrue, sym, subst}
use Rattle.request_props.specs.Lying.{HasTables}
use Rattle.request_props.proofs.Covering.{covers_by}
use Rattle.request_props.proofs.tables.lying.covers.Goals as goal

-- the set has all of the tables where none is left without it
pub returns-in-Some : goal.returns-in-Some
returns-in-Some c =
    let by = covers_by c.in-Some.tables c.args.set c.difference.result c.least.result c.is_none.result
    c.difference.ensures c.least.ensures c.is_none.ensures in
    subst (λ (t : Option ℕ). IsTrue c.is_none.result ↔ HasTables c.args.set t) (sym c.in-Some.is) by
