-- The left side's key has one group, its tables leave the others of the set, and both are sides or there are none.
use Rattle.std.proofs.Common.{rules, ◌≡◌, ◌∙◌, sym}
use Rattle.std.proofs.lemmas.Bool.{false≢true}
use Rattle.query_core.specs.Keys.{top_of}
use Rattle.query_core.proofs.CandidateLemmas.{part_groups}
use Rattle.query_core.proofs.GroupLemmas.{group_in_range}
use Rattle.request_props.proofs.SideLemmas.{of_tables_small, own_sides, sides_found, union_of_tables}
use Rattle.request_props.proofs.tables.candidates.sides.sides_at.Goals as goal

-- a left side has a key of the query
pub returns-then-not-is_key : goal.returns-then-not-is_key
returns-then-not-is_key c (a, b, falls, at) =
    let q = c.args.query.now in
    let known = c.is_key.ensures.1 (
      top_of q a,
      record { number = sym at; known = (part_groups q c.args.set a b c.requires.known.0 falls).0 },
    ) in
    false≢true (sym c.if-not-is_key.true ∙ known)

pub tables-tables-requires : goal.tables-tables-requires
tables-tables-requires c = group_in_range c.args.query.now c.group-group.result c.group-group.ensures.named.known

pub returns-then-union-set : goal.returns-then-union-set
returns-then-union-set c has =
    let q = c.args.query.now in
    let group = c.group-group.result in
    let own = own_sides q c.args.set c.args.key.0 group c.tables-tables.result c.difference-others.result
    (of_tables_small q c.args.set c.requires.known.0)
    (group_in_range q group c.group-group.ensures.named.known) (sym c.group-group.ensures.named.number)
    c.tables-tables.ensures c.difference-others.ensures has in
    c.if-union-set.true (c.union.ensures.number ∙ own.0.whole)

pub side-requires-clause-of_tables : goal.side-requires-clause-of_tables
side-requires-clause-of_tables c =
    (union_of_tables c.args.set c.tables-tables.result c.difference-others.result _ (sym c.union.ensures.number
    ∙ c.if-union-set.false) c.requires.known.0).0

pub returns-in_err-left : goal.returns-in_err-left
returns-in_err-left c =
    let q = c.args.query.now in
    let group = c.group-group.result in
    rw c.from_residual.ensures (λ has.
    let own = own_sides q c.args.set c.args.key.0 group c.tables-tables.result c.difference-others.result
    (of_tables_small q c.args.set c.requires.known.0)
    (group_in_range q group c.group-group.ensures.named.known) (sym c.group-group.ensures.named.number)
    c.tables-tables.ensures c.difference-others.ensures has in
    c.in_err-left.ensures (own.0.some_left, own.0.left))

pub returns-then-ne : goal.returns-then-ne
returns-then-ne c has =
    let q = c.args.query.now in
    let group = c.group-group.result in
    let own = own_sides q c.args.set c.args.key.0 group c.tables-tables.result c.difference-others.result
    (of_tables_small q c.args.set c.requires.known.0)
    (group_in_range q group c.group-group.ensures.named.known) (sym c.group-group.ensures.named.number)
    c.tables-tables.ensures c.difference-others.ensures has in
    let other : c.in_ok-left.left ≡ group → ⊥ = search rules in
    other (c.in_ok-left.ensures.0 ∙ sym own.1)

pub side-requires-2-clause-of_tables : goal.side-requires-2-clause-of_tables
side-requires-2-clause-of_tables c =
    (union_of_tables c.args.set c.tables-tables.result c.difference-others.result _ (sym c.union.ensures.number
    ∙ c.if-union-set.false) c.requires.known.0).1

pub returns-in_err-right : goal.returns-in_err-right
returns-in_err-right c =
    let q = c.args.query.now in
    let group = c.group-group.result in
    rw c.from_residual-in_err-right.ensures (λ has.
    let own = own_sides q c.args.set c.args.key.0 group c.tables-tables.result c.difference-others.result
    (of_tables_small q c.args.set c.requires.known.0)
    (group_in_range q group c.group-group.ensures.named.known) (sym c.group-group.ensures.named.number)
    c.tables-tables.ensures c.difference-others.ensures has in
    c.in_err-right.ensures (own.0.some_right, own.0.right))

pub returns : goal.returns
returns c =
    let q = c.args.query.now in
    let group = c.group-group.result in
    let same : c.in_ok-left.left ≡ group = search rules in
    sides_found q c.args.set c.args.key.0 group c.tables-tables.result c.difference-others.result
    (of_tables_small q c.args.set c.requires.known.0)
    (group_in_range q group c.group-group.ensures.named.known) (sym c.group-group.ensures.named.number)
    c.tables-tables.ensures c.difference-others.ensures
    c.in_ok-left.left c.in_ok-right.right (sym c.union.ensures.number ∙ c.if-union-set.false) c.in_ok-left.ensures.1
    c.in_ok-right.ensures.1 c.in_ok-left.ensures.0 same c.in_ok-right.ensures.0
