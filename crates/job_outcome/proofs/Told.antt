-- The answer words of a finished goal tell its answer.
use Rattle.std.proofs.Common.{◌≡◌, ℕ, ◌-◌, ◌^◌, ◌≤◌, Bool, cond, refl, subst, ap, ◌∙◌, arith, Option, None, Some}
use Rattle.std.proofs.Common.{option_map, eq-eqb, ne_eqb}
use Rattle.std.specs.Option.{option_map_or}
use Rattle.query_core.specs.declared.query.Query.{Query}
use Rattle.plan_space.specs.Cost.{most_of_all}
use Rattle.best_answers.specs.Laws.{BestsFit}
use Rattle.best_answers.specs.Nodes.{all_nodes, modes_of}
use Rattle.best_answers.specs.declared.best.Best.{Best}
use Rattle.goal_space.specs.Goals.{IsGoal}
use Rattle.goal_space.specs.Laws.{GoalRequestsFit}
use Rattle.goal_space.specs.Answers.{IsAnswerTo, TellsAnswer, no_choice}
use Rattle.goal_space.specs.declared.goals.GoalKind.{GoalKind}
use Rattle.goal_space.specs.declared.goals.GoalKind.TheVariants.{Exp, ExpE, Xf, Imp, ImpE, Opt, OptE}
use Rattle.goal_rules.specs.Answers.{AreWordsOf, IsAnswerWord}
use Rattle.job_outcome.specs.Searched.{cost_told, told_of}
use Rattle.goal_board.specs.declared.answers.Finished.{Finished}

-- what chooses no plan costs nothing
free : (best : Best) → Some best ≡ no_choice → best.cost ≤ most_of_all
free best is = let cost : best.cost ≡ 0 = ap (λ (a : Option Best). option_map_or (λ (b : Best). b.cost) a 0) is in
    omega (arith, cost)

-- no answer costs more than any least plan may
bounded : (q : Query) → BestsFit q → GoalRequestsFit q → (goal : GoalKind) (best : Best) → IsGoal q goal
    → IsAnswerTo q goal (Some best) → best.cost ≤ most_of_all
bounded q fit requests (Exp group) best is_goal is = free best is
bounded q fit requests (ExpE e) best is_goal is = free best is
bounded q fit requests (Xf e rule) best is_goal is = free best is
bounded q fit requests (Imp group) best is_goal is = free best is
bounded q fit requests (ImpE e) best is_goal is = free best is
bounded q fit requests (Opt group wanted) best is_goal is =
    fit group wanted all_nodes best (requests (Opt group wanted) is_goal) is
bounded q fit requests (OptE e wanted) best is_goal is =
    fit e.group wanted (modes_of e) best (requests (OptE e wanted) is_goal) is

-- so a cost is told from that of no plan
cost_right : (answer : Option Best) (cost node : ℕ) → AreWordsOf answer cost node
    → ((best : Best) → answer ≡ Some best → best.cost ≤ most_of_all)
    → cost_told cost ≡ option_map (λ (best : Best). best.cost) answer
cost_right None cost node words few = ap (λ (b : Bool). cond b None (Some cost)) (eq-eqb cost (2 ^ 64 - 1) words.0)
cost_right (Some best) cost node words few =
    let few_is = few best refl in
    let differs = ne_eqb cost (2 ^ 64 - 1) (λ (is : cost ≡ 2 ^ 64 - 1). absurd (omega (arith, is, few_is, words.0))) in
    ap (λ (b : Bool). cond b None (Some cost)) differs ∙ ap Some words.0

node_right : (answer : Option Best) (cost node : ℕ) → AreWordsOf answer cost node
    → node ≡ option_map_or (λ (best : Best). best.node.0) answer 0
node_right None cost node words = words.1
node_right (Some best) cost node words = words.1

-- the answer of a finished goal is told
pub tells : (q : Query) → BestsFit q → GoalRequestsFit q → (f : Finished)
    → IsAnswerWord q f.goal f.answer.cost f.answer.node → TellsAnswer q (told_of f)
tells q fit requests f is = (
  is.goal,
  record {
    names = is.names;
    answer = is.answer;
    is_answer = is.is_answer;
    cost = cost_right is.answer f.answer.cost f.answer.node is.words
        (λ best same. bounded q fit requests is.goal best is.names.is_goal
        (subst (IsAnswerTo q is.goal) same is.is_answer));
    node = node_right is.answer f.answer.cost f.answer.node is.words;
  },
)
