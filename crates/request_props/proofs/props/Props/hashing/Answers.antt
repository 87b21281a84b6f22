-- Rows that are hashed by any column are spread.
use Rattle.std.proofs.Common.{ℕ, sym, subst}
use Rattle.request_props.specs.Numbered.{column_list}
use Rattle.request_props.specs.Satisfied.{Meets}
use Rattle.request_props.specs.declared.given.GivenDist.TheVariants.{Hashed}
use Rattle.request_props.specs.declared.request.Dist.{Dist}
use Rattle.request_props.proofs.CrossingsByAny.{crosses_any}
use Rattle.request_props.proofs.props.Props.hashing.Goals as goal

pub returns-in-Spread : goal.returns-in-Spread
returns-in-Spread c pred =
    let q = c.args.query.now in
    let spread = λ (column : ℕ). subst (λ (wanted : Dist). Meets (Hashed (column_list q column)) wanted)
    (sym c.in-Spread.is) tt in
    let any = crosses_any q c.args.left c.args.right pred
    (λ column. Meets (Hashed (column_list q column)) c.args.wanted) spread in
    (λ has. any.0 ((c.crossings.ensures pred).0 has), λ crosses. (c.crossings.ensures pred).1 (any.1 crosses))
