use Rattle.std.proofs.Common.{subst}
use Rattle.xform_rules.specs.UsableIndexes.{IsNthUsable}
use Rattle.xform_rules.specs.Forms.{Finds}
use Rattle.xform_rules.proofs.Usable.{few_indexes, nth_of_table, table_at, no_table_at}
use Rattle.xform_rules.proofs.usable_indexes.usable_of_table.Goals as goal

pub nth_usable-requires : goal.nth_usable-requires
nth_usable-requires c =
    let q = c.args.query.now in
    let table = c.in-Some.found.now in
    let got = table_at q.tables c.as_slice.result.now c.args.table table c.as_slice.ensures c.in-Some.ensures.lookup.0
    c.in-Some.ensures.lookup.1 in
    rw c.as_slice-in-Some.ensures (few_indexes q c.args.table table got)

-- the table is the one at its place
pub returns-in-Some : goal.returns-in-Some
returns-in-Some c =
    let q = c.args.query.now in
    let table = c.in-Some.found.now in
    let got = table_at q.tables c.as_slice.result.now c.args.table table c.as_slice.ensures c.in-Some.ensures.lookup.0
    c.in-Some.ensures.lookup.1 in
    let found = subst (λ indexes. Finds (IsNthUsable q c.args.table indexes c.args.n) c.nth_usable.result)
    c.as_slice-in-Some.ensures c.nth_usable.ensures in
    nth_of_table q c.args.table table c.args.n c.nth_usable.result got found

-- there is none
pub returns-in-None : goal.returns-in-None
returns-in-None c index (table, got, nth) =
    no_table_at c.args.query.now.tables c.as_slice.result.now c.args.table table c.as_slice.ensures
    c.in-None.ensures.lookup.0 got
