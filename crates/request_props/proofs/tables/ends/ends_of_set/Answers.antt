-- A set is one of its tables and the others.
use Rattle.std.proofs.Common.{ap, arith, length, ℕ, ◌^◌, ◌-◌, ◌≡◌, ◌<◌, ◌∙◌}
use Rattle.query_core.specs.Sets.{bit}
use Rattle.query_core.specs.declared.words.KeyParts.TheVariants.{Get, Join}
use Rattle.request_props.specs.Ends.{HasColumn}
use Rattle.request_props.proofs.PredicateEnds.{ends_either}
use Rattle.request_props.proofs.SetEnds.{column_either, others_less, table_below}
use Rattle.request_props.proofs.tables.ends.ends_of_set.Goals as goal

-- the table is one of the query's
pub bounds-of_tables-table : goal.bounds-of_tables-table
bounds-of_tables-table c =
    omega (
      arith,
      table_below c.args.set c.in-Some.table c.in-Some.ensures.here (length c.args.query.now.tables)
          c.requires.within,
      c.requires.tables.count,
    )

-- the others are a lesser set
pub bounds-of_lesser-others : goal.bounds-of_lesser-others
bounds-of_lesser-others c =
    let rest : (t : ℕ) → bit c.difference-others.result t ≡ bit c.args.set t - bit (2 ^ c.in-Some.table) t =
    λ t. c.difference-others.ensures t ∙ ap (λ one. bit c.args.set t - bit one t) c.of_one.ensures in
    omega (
      arith,
      others_less c.args.set c.in-Some.table c.difference-others.result c.in-Some.ensures.here rest,
      c.requires.lesser.count,
    )

pub returns-in-Some : goal.returns-in-Some
returns-in-Some c =
    let q = c.args.query.now in
    let set = c.args.set in
    let table = c.in-Some.table in
    let others = c.difference-others.result in
    let here = c.in-Some.ensures.here in
    let rest : (t : ℕ) → bit others t ≡ bit set t - bit (2 ^ table) t =
    λ t. c.difference-others.ensures t ∙ ap (λ one. bit set t - bit one t) c.of_one.ensures in
    let table_within : table < length c.args.of_tables.now =
    omega (arith, table_below set table here (length q.tables) c.requires.within, c.requires.tables.count) in
    let others_within : others < length c.args.of_lesser.now =
    omega (arith, others_less set table others here rest, c.requires.lesser.count) in
    ends_either q (HasColumn q (Join set)) (HasColumn q (Get table)) (HasColumn q (Join others)) _ _ c.or.result
    (column_either set table others here rest q) (c.requires.tables.each table _ table_within)
    (c.requires.lesser.each others _ others_within) c.or.ensures.first c.or.ensures.second
