use Rattle.query_core.specs.Expressions.{expr_of, physical_children}
use Rattle.query_core.specs.Keys.{IsGroup}
use Rattle.plan_tree.proofs.Asked.{left_holds, right_holds}
use Rattle.plan_tree.proofs.cost.expr_rows.Goals as goal

-- the children of a candidate are groups of the query
pub child_rows-requires-clause-group : goal.child_rows-requires-clause-group
child_rows-requires-clause-group c =
    rw (c.left_child.ensures, c.children.ensures)
    (left_holds (IsGroup c.args.query.now) (physical_children c.args.expr.operator)
    (λ g is. c.candidates_are_known.ensures.children c.args.query.now (expr_of c.args.expr) g c.requires.candidate is))

pub child_rows-requires-2-clause-group : goal.child_rows-requires-2-clause-group
child_rows-requires-2-clause-group c =
    rw (c.right_child.ensures, c.children-2.ensures)
    (right_holds (IsGroup c.args.query.now) (physical_children c.args.expr.operator)
    (λ g is. c.candidates_are_known.ensures.children c.args.query.now (expr_of c.args.expr) g c.requires.candidate is))
