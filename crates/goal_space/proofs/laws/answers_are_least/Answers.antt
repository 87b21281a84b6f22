use Rattle.query_core.specs.declared.query.Query.{Query}
use Rattle.plan_tree.specs.declared.answers.Answered.{Answered}
use Rattle.goal_space.specs.Answers.{Tells, TellsLeast}
use Rattle.goal_space.specs.declared.goals.GoalKind.{GoalKind}
use Rattle.goal_space.specs.declared.goals.GoalKind.TheVariants.{Exp, ExpE, Xf, Imp, ImpE, Opt, OptE}
use Rattle.goal_space.proofs.Told.{told_nothing, told_plan, told_at_root}
use Rattle.goal_space.proofs.laws.answers_are_least.Goals as goal

-- the request of a goal fits its group; the best of all nodes is the least plan, and that of an expression's modes the
-- least with it at the root
told : (c : goal.After-best_at_root_is_least) → (q : Query) (goal : GoalKind) (told : Answered) → Tells q told goal
    → TellsLeast q goal told
told c q (Exp group) answered tells = told_nothing answered tells.answer tells.is_answer tells.cost tells.node
told c q (ExpE e) answered tells = told_nothing answered tells.answer tells.is_answer tells.cost tells.node
told c q (Xf e rule) answered tells = told_nothing answered tells.answer tells.is_answer tells.cost tells.node
told c q (Imp group) answered tells = told_nothing answered tells.answer tells.is_answer tells.cost tells.node
told c q (ImpE e) answered tells = told_nothing answered tells.answer tells.is_answer tells.cost tells.node
told c q (Opt group wanted) answered tells =
    let fits = c.goals_are_known.ensures.requests q (Opt group wanted) tells.names.is_goal in
    let least = c.best_is_least.ensures q group wanted tells.answer fits tells.is_answer in
    (least.0, least.2, told_plan q answered tells.answer least.0 least.3 tells.cost tells.node)
told c q (OptE e wanted) answered tells =
    let fits = c.goals_are_known.ensures.requests q (OptE e wanted) tells.names.is_goal in
    let member = (c.goals_are_known.ensures.members q (OptE e wanted) tells.names.is_goal).1 in
    let least = told_at_root q e (c.choices_serve.ensures q) (c.best_at_root_is_least.ensures q) member wanted
    tells.answer fits tells.is_answer in
    (least.0, least.1, told_plan q answered tells.answer least.0 least.2 tells.cost tells.node)

pub returns : goal.returns
returns = told
