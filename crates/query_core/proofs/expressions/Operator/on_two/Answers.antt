use Rattle.query_core.proofs.ExpressionLemmas.{join_there}
use Rattle.std.proofs.Common.{sym, ◌∙◌}
use Rattle.query_core.proofs.expressions.Operator.on_two.Goals as goal

-- each number of a join has its operator
pub unreachable-requires : goal.unreachable-requires
unreachable-requires c =
    let (o, is) = join_there c.args.number c.args.left c.args.right c.requires in
    c.in-None.ensures o (is ∙ sym c.new.ensures)
