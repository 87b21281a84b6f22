use Rattle.std.specs.Str.{bytes_eq}
use Rattle.std.specs.Cmp.Lexicographic.{nat_list_eq_equiv}
use Rattle.sql_bind.proofs.NameLemmas.{is_new, next_added}
use Rattle.sql_bind.proofs.scope.column_names.Goals as goal

-- names of columns differ, so the one at the place is new
pub add-requires : goal.add-requires
add-requires c =
    let loop = c.loop-column in
    is_new bytes_eq nat_list_eq_equiv.symm (λ x. x.name) loop.names c.args.columns.now loop.column-index
    c.column-item.result c.requires loop.invariant c.loop-column-test.true c.column-item.is

-- and goes last
pub loop-column-preserved : goal.loop-column-preserved
loop-column-preserved c =
    let loop = c.loop-column in
    next_added (λ x. x.name) c.args.columns.now loop.column-index c.column-item.result c.loop-column-test.true
    c.column-item.is loop.names c.add.new.self loop.invariant c.in_ok-add.ensures
