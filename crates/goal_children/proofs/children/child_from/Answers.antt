use Rattle.std.proofs.Common.{sym, subst}
use Rattle.goal_space.specs.Laws.{IsOfCandidate}
use Rattle.goal_space.specs.declared.goals.GoalKind.{GoalKind}
use Rattle.goal_children.specs.Children.{IsChildIn}
use Rattle.goal_children.specs.Finding.{FindsFrom}
use Rattle.goal_children.proofs.children.child_from.Goals as goal

-- a goal over the query is about a candidate, whose parts fit
pub transformed_from-requires : goal.transformed_from-requires
transformed_from-requires c =
    c.candidates_are_known.ensures.packed c.args.memo.query.now c.in-ExpE.e
    (subst (IsOfCandidate c.args.memo.query.now) c.in-ExpE.is c.requires.goal.of_candidate)

pub left_goal_from-requires : goal.left_goal_from-requires
left_goal_from-requires c =
    let packed = c.candidates_are_known.ensures.packed c.args.memo.query.now c.in-Xf.e
    (subst (IsOfCandidate c.args.memo.query.now) c.in-Xf.is c.requires.goal.of_candidate) in
    packed.children

pub transformed_from-requires-in-ImpE : goal.transformed_from-requires-in-ImpE
transformed_from-requires-in-ImpE c =
    c.candidates_are_known.ensures.packed c.args.memo.query.now c.in-ImpE.e
    (subst (IsOfCandidate c.args.memo.query.now) c.in-ImpE.is c.requires.goal.of_candidate)

pub returns-in-ImpE : goal.returns-in-ImpE
returns-in-ImpE c =
    subst (λ (g : GoalKind). FindsFrom (IsChildIn c.args.memo.query.now c.args.memo.members.now g) c.args.bound
    c.transformed_from-in-ImpE.result) (sym c.in-ImpE.is) c.transformed_from-in-ImpE.ensures
