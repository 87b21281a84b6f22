use Rattle.std.proofs.Common.{◌+◌, arith}
use Rattle.query_generator.specs.Select.{is_joined, join_of}
use Rattle.query_generator.proofs.Ranges.{next_passing}
use Rattle.query_generator.proofs.select.add_joins.Goals as goal

-- the join with the next table goes last, where the shape has it
pub loop-j-preserved : goal.loop-j-preserved
loop-j-preserved c =
    next_passing (join_of c.args.i) (is_joined c.args.shape c.args.i) (c.args.i + 1) c.loop-j.j c.args.joins.now
    c.loop-j.joins c.add_join.new.joins (omega arith) c.loop-j.invariant c.in_ok-add_join.ensures
