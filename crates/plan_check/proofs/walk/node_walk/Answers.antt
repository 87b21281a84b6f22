use Rattle.std.proofs.Common.{refl}
use Rattle.plan_check.proofs.Walks.{known_node, unknown_node}
use Rattle.plan_check.proofs.walk.node_walk.Goals as goal

-- the number is that of a node of the query
pub returns-in-Some-clause-walked : goal.returns-in-Some-clause-walked
returns-in-Some-clause-walked c =
    known_node c.args.query.now c.args.node c.in-Some.kind c.args.below c.kind_walk.result c.nodes_are_one.ensures
    c.in-Some.ensures.0 c.in-Some.ensures.1 c.kind_walk.ensures.nodes c.kind_walk.ensures.known
    c.kind_walk.ensures.walked

-- it is that of none
pub returns-in-None-clause-walked : goal.returns-in-None-clause-walked
returns-in-None-clause-walked c =
    unknown_node c.args.query.now c.args.node c.args.below _ c.kind_walk-walked.ensures.nodes refl c.in-None.ensures
