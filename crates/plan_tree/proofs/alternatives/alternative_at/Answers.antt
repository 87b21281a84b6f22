use Rattle.std.proofs.Common.{subst}
use Rattle.query_core.specs.Expressions.{expr_of}
use Rattle.query_core.specs.Goals.{FitsExpr}
use Rattle.plan_tree.proofs.alternatives.alternative_at.Goals as goal

-- the expression's word fits
pub native-node-requires-clause-word : goal.native-node-requires-clause-word
native-node-requires-clause-word c =
    subst FitsExpr c.requires.word.number
    (c.expressions_are_one.ensures.small (expr_of c.args.expr) c.requires.word.packed)

-- and its children are groups of the query
pub alt_over-requires-clause-known : goal.alt_over-requires-clause-known
alt_over-requires-clause-known c =
    rw c.children.ensures
    (λ g is. c.candidates_are_known.ensures.children c.args.query.now (expr_of c.args.expr) g c.requires.candidate is)
