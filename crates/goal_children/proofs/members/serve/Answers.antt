use Rattle.goal_children.proofs.Serving.{served}
use Rattle.goal_children.proofs.members.serve.Goals as goal

pub returns-in-Some : goal.returns-in-Some
returns-in-Some c = served c.args.memo.query.now c.args.wanted c.args.e c.in-Some.physical c.in-Some.ensures
    c.serve_by.result c.serve_by.ensures

-- a logical expression is no physical one
pub returns-in-None : goal.returns-in-None
returns-in-None c = λ goal is. c.in-None.ensures is.physical is.is
