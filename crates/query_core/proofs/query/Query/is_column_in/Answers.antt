use Rattle.std.proofs.Common.{ap, false, sym, ◌∙◌}
use Rattle.std.specs.Prelude.{◌==◌}
use Rattle.std.specs.Option.{option_map_or}
use Rattle.std.proofs.lemmas.Bool.{eq-eqb, eqb-true}
use Rattle.std.proofs.lemmas.Bool.Decides.{same_from_decides}
use Rattle.query_core.specs.Sets.{bit}
use Rattle.query_core.proofs.Lookups.{found_at, none_at}
use Rattle.query_core.proofs.query.Query.is_column_in.Goals as goal

pub returns-in-Some : goal.returns-in-Some
returns-in-Some c =
    let set = c.args.set in
    let table = c.in-Some.column.now.table in
    same_from_decides c.has.result (bit set table == 1) c.has.ensures
    (eqb-true (bit set table) 1, eq-eqb (bit set table) 1)
    ∙ sym (ap (λ found. option_map_or (λ item. bit set item.table == 1) found false)
    (found_at c.args.self.now.items c.as_slice.result.now c.args.item c.in-Some.column.now c.as_slice.ensures
    c.in-Some.ensures.lookup.3.0 c.in-Some.ensures.lookup.1))

pub returns-in-None : goal.returns-in-None
returns-in-None c =
    sym (ap (λ found. option_map_or (λ item. bit c.args.set item.table == 1) found false)
    (none_at c.args.self.now.items c.as_slice.result.now c.args.item c.as_slice.ensures c.in-None.ensures.lookup.3))
