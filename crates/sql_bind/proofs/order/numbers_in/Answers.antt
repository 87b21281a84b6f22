use Rattle.std.proofs.Common.{◌∙◌}
use Rattle.sql_bind.specs.Numbers.{column_number}
use Rattle.sql_bind.specs.Query.{group_numbers, itself, with_new}
use Rattle.sql_bind.proofs.Distinct.{begins, carries, finishes}
use Rattle.sql_bind.proofs.order.numbers_in.Goals as goal

pub loop-column-init : goal.loop-column-init
loop-column-init c = rw c.requires.empty (begins itself (group_numbers c.args.used.now c.args.group.now))

-- the column's number is kept, unless it is there
pub loop-column-preserved : goal.loop-column-preserved
unfolding with_new
loop-column-preserved c =
    let loop = c.loop-column in
    carries itself (column_number c.args.used.now) c.args.group.now loop.column-index _ loop.kept.keys
    c.insert.new.self.keys c.number_of_column.result _ c.loop-column-test.true c.number_of_column.ensures.number
    c.in_ok-insert.ensures.keys loop.invariant

-- no column is left
pub returns : goal.returns
returns c =
    let loop = c.loop-column in
    c.of.ensures ∙ (c.in_ok-from_slice.ensures.items
    ∙ (c.as_slice.ensures.keys ∙ finishes itself (column_number c.args.used.now) c.args.group.now loop.column-index
    loop.kept.keys _ c.loop-column-test.false loop.invariant))
