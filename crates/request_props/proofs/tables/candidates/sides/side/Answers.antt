-- One table is connected, and its group is that of the table alone.
use Rattle.std.proofs.Common.{◌≡◌, ◌^◌, ◌<◌, Some, length, ap, sym, subst, ◌∙◌, arith}
use Rattle.std.specs.Option.{option_map_or}
use Rattle.query_core.specs.Sets.{only_of}
use Rattle.query_core.specs.Keys.{group_of_table}
use Rattle.query_core.specs.Connected.{IsConnected}
use Rattle.query_core.specs.declared.words.KeyParts.TheVariants.{Join}
use Rattle.query_core.proofs.GroupLemmas.{exponent_lt}
use Rattle.query_core.proofs.Unions.{one_connected}
use Rattle.request_props.proofs.SideLemmas.{only_table}
use Rattle.request_props.proofs.tables.candidates.sides.side.Goals as goal

pub table_group-requires-clause-of_tables : goal.table_group-requires-clause-of_tables
table_group-requires-clause-of_tables c =
    let q = c.args.query.now in
    let found : Some c.in-Some.table ≡ only_of c.args.tables = sym c.in-Some.is ∙ c.only.ensures in
    exponent_lt c.in-Some.table (length q.tables)
    (subst (λ x. x < 2 ^ length q.tables) (only_table c.args.tables c.in-Some.table found) c.requires.of_tables)

pub returns-in-Some : goal.returns-in-Some
returns-in-Some c =
    let q = c.args.query.now in
    let found : Some c.in-Some.table ≡ only_of c.args.tables = sym c.in-Some.is ∙ c.only.ensures in (
      c.table_group.ensures ∙ ap (λ o. option_map_or (group_of_table q) o (Join c.args.tables)) found,
      (
        omega (arith, c.if-tables-eq0.false),
        subst (IsConnected q.links)
            (sym (only_table c.args.tables c.in-Some.table found)) (one_connected q.links c.in-Some.table),
      ),
    )
