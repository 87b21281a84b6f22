-- The answers of goals.
use Rattle.std.specs.Prelude.{ℕ, ◌≡◌, List, Option, Some, map, option_map}
use Rattle.std.specs.Option.{option_map_or}
use Rattle.std.specs.List.{All, Contains}
use Rattle.std.specs.List.Sorted.{IsStrictlyIncreasing}
use Rattle.query_core.specs.declared.query.Query.{Query}
use Rattle.xform_rules.specs.Closure.{IsMember}
use Rattle.plan_space.specs.Nodes.{node_number, Tree}
use Rattle.plan_space.specs.Cost.{cost_of}
use Rattle.plan_space.specs.Least.{IsAnswer}
use Rattle.plan_space.specs.Choices.{IsAnswerAtRoot}
use Rattle.plan_tree.specs.Seen.{root_node}
use Rattle.plan_tree.specs.declared.answers.Answered.{Answered}
use Rattle.best_answers.specs.Nodes.{modes_of, all_nodes}
use Rattle.best_answers.specs.Best.{IsBest}
use Rattle.best_answers.specs.declared.best.Best.{Best}
use Rattle.goal_space.specs.Words.{goal_word}
use Rattle.goal_space.specs.Goals.{IsGoal}
use Rattle.goal_space.specs.Entries.{NamesGoal}
use Rattle.goal_space.specs.declared.goals.GoalKind.{GoalKind}
use Rattle.goal_space.specs.declared.goals.GoalKind.TheVariants.{Exp, ExpE, Xf, Imp, ImpE, Opt, OptE}

-- the answer of a goal that chooses no plan
abbrev pub no_choice : Option Best
no_choice = Some (record { cost = 0; node = record { 0 = 0 } })

-- the answer of a goal: for a request the best of all nodes, or of the expression's modes
abbrev pub IsAnswerTo : Query → GoalKind → Option Best → Type 0
IsAnswerTo q (Exp group) answer = answer ≡ no_choice
IsAnswerTo q (ExpE e) answer = answer ≡ no_choice
IsAnswerTo q (Xf e rule) answer = answer ≡ no_choice
IsAnswerTo q (Imp group) answer = answer ≡ no_choice
IsAnswerTo q (ImpE e) answer = answer ≡ no_choice
IsAnswerTo q (Opt group wanted) answer = IsBest q group wanted all_nodes answer
IsAnswerTo q (OptE e wanted) answer = IsBest q e.group wanted (modes_of e) answer

-- ---- answers in a list

-- the goal's answer is told: its cost, and its node, which is 0 where there is no plan
pub record Tells (q : Query) (told : Answered) (goal : GoalKind) : Type 0 where
  pub names : NamesGoal q told.goal.0 goal
  pub answer : Option Best
  pub is_answer : IsAnswerTo q goal answer
  pub cost : told.cost ≡ option_map (λ best. best.cost) answer
  pub node : told.node.0 ≡ option_map_or (λ best. best.node.0) answer 0

-- it is that of a goal of the query
abbrev pub TellsAnswer : Query → Answered → Type 0
TellsAnswer q told = (goal : GoalKind) × Tells q told goal

abbrev pub words_told : List Answered → List ℕ
words_told answers = map (λ told. told.goal.0) answers

-- the answers of all goals of the query, and no others, ascending by the goals' words
pub record AreAnswers (q : Query) (answers : List Answered) : Type 0 where
  pub ascending : IsStrictlyIncreasing (words_told answers)
  pub sound : All (TellsAnswer q) answers
  pub complete : (goal : GoalKind) → IsGoal q goal → Contains (words_told answers) (goal_word goal)

-- ---- what is told, in words of plans

-- a goal that chooses no plan tells cost 0 and no node
pub record TellsNoChoice (told : Answered) : Type 0 where
  pub cost : told.cost ≡ Some 0
  pub node : told.node.0 ≡ 0

-- the plan's cost is told, and the number of the node at its root; of no plan no cost, and the number 0
pub record TellsPlan (q : Query) (told : Answered) (plan : Option Tree) : Type 0 where
  pub cost : told.cost ≡ option_map (cost_of q) plan
  pub node : told.node.0 ≡ option_map_or (λ tree. node_number (root_node tree)) plan 0

-- what is told of a goal: of a group and a request the least plan of all, and of an expression and a request the least
-- of those with the expression at the root; none is told exactly where there is no such plan
abbrev pub TellsLeast : Query → GoalKind → Answered → Type 0
TellsLeast q (Exp group) told = TellsNoChoice told
TellsLeast q (ExpE e) told = TellsNoChoice told
TellsLeast q (Xf e rule) told = TellsNoChoice told
TellsLeast q (Imp group) told = TellsNoChoice told
TellsLeast q (ImpE e) told = TellsNoChoice told
TellsLeast q (Opt group wanted) told =
    (plan : Option Tree) × IsAnswer (IsMember q) q group wanted plan × TellsPlan q told plan
TellsLeast q (OptE e wanted) told =
    (plan : Option Tree) × IsAnswerAtRoot (IsMember q) q e wanted plan × TellsPlan q told plan
