-- A set with other tables is no left side, and each other one is looked at.
use Rattle.std.proofs.Common.{◌≡◌, arith, ◌+◌, subst, sym}
use Rattle.query_core.specs.declared.keys.TheConstants.{FIRST_SET_KEY}
use Rattle.request_props.specs.Joins.{AreSidesBelow}
use Rattle.request_props.proofs.SideLemmas.{of_tables_small}
use Rattle.request_props.proofs.SideLists.{no_sides_between, no_sides_at, no_sides_among, all_found}
use Rattle.request_props.proofs.tables.candidates.sides.push_of_several.Goals as goal
use Rattle.request_props.proofs.tables.candidates.sides.push_of_several.Goals.{then-union-set+in_ok-push_at, else-union-set}

pub loop-tables-init : goal.loop-tables-init
loop-tables-init c =
    let q = c.args.query.now in
    no_sides_between q c.args.set (of_tables_small q c.args.set c.requires.known.0) c.args.found.now c.requires.of_one

pub loop-tables-preserved : goal.loop-tables-preserved
loop-tables-preserved c =
    let q = c.args.query.now in
    let set = c.args.set in
    let tables = c.loop-tables.tables in
    let next : FIRST_SET_KEY + tables + 1 ≡ FIRST_SET_KEY + (tables + 1) = omega arith in
    subst (λ bound. AreSidesBelow q set bound c.if-union-set.found) next
    (elim c.if-union-set.branch [
      | then-union-set+in_ok-push_at w ↦ subst (AreSidesBelow q set (FIRST_SET_KEY + tables + 1)) (sym w.found-is)
          w.in_ok-push_at.ensures
      | else-union-set w ↦ subst (AreSidesBelow q set (FIRST_SET_KEY + tables + 1)) (sym w.found-is)
          (no_sides_at q set (FIRST_SET_KEY + tables) c.loop-tables.found
          (no_sides_among q set (of_tables_small q set c.requires.known.0) tables c.union.result c.union.ensures.each
          w.if-union-set.false)
          c.loop-tables.invariant)
    ])

pub returns : goal.returns
returns c =
    let q = c.args.query.now in
    let set = c.args.set in
    let end : FIRST_SET_KEY + c.loop-tables.tables ≡ FIRST_SET_KEY + set = omega arith in
    all_found q set (of_tables_small q set c.requires.known.0) c.loop-tables.found
    (subst (λ bound. AreSidesBelow q set bound c.loop-tables.found) end c.loop-tables.invariant)
