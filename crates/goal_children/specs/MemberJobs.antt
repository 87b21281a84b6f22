-- The goals of members: which an expression has, and their words.
use Rattle.std.specs.Prelude.{ℕ, ◌≡◌, ◌<◌, IsTrue, List, length, slice_index, take, ⊤}
use Rattle.std.specs.List.{Contains}
use Rattle.query_core.specs.Expressions.{expr_of, is_logical, word_of, IsCandidate}
use Rattle.query_core.specs.Goals.{goal_number}
use Rattle.query_core.specs.declared.query.Query.{Query}
use Rattle.query_core.specs.declared.words.GoalParts.{GoalParts}
use Rattle.query_core.specs.declared.words.GoalParts.TheVariants as parts
use Rattle.query_core.specs.declared.expressions.ExprParts.{ExprParts}
use Rattle.query_core.specs.declared.expressions.PhysicalExpr.{PhysicalExpr}
use Rattle.request_props.specs.Requests.{code_of, IsRequestInRange}
use Rattle.request_props.specs.declared.request.Request.{Request}
use Rattle.plan_tree.specs.Alternatives.{HasAlternative}
use Rattle.goal_space.specs.declared.goals.GoalKind.{GoalKind}
use Rattle.goal_space.specs.declared.goals.GoalKind.TheVariants.{OptE}
use Rattle.goal_space.specs.declared.phase.Phase.{Phase}
use Rattle.goal_space.specs.declared.phase.Phase.TheVariants.{Exploration, Implementation}
use Rattle.goal_children.specs.declared.jobs.MemberJob.{MemberJob}
use Rattle.goal_children.specs.declared.jobs.MemberJob.TheVariants.{Transform, Serve}
use Rattle.goal_children.specs.Over.{IsNumberedRequest}
use Rattle.goal_space.specs.Phases.{phase_goal_of_expr}

-- the request of the job, if it has one, has numbers
abbrev pub HasNumberedJob : Query → MemberJob → Type 0
HasNumberedJob q (Transform phase) = ⊤
HasNumberedJob q (Serve wanted) = IsNumberedRequest q wanted

-- the request of the job, if it has one, has a code
abbrev pub IsJobInRange : MemberJob → Type 0
IsJobInRange (Transform phase) = ⊤
IsJobInRange (Serve wanted) = IsRequestInRange wanted

-- the goal of the expression of this word, as numbers
abbrev pub parts_at : MemberJob → ℕ → GoalParts
parts_at (Transform Exploration) word = parts.ExpE (record { 0 = word })
parts_at (Transform Implementation) word = parts.ImpE (record { 0 = word })
parts_at (Serve wanted) word = parts.OptE (record { 0 = word }) (code_of wanted)

-- its word
abbrev pub word_at : MemberJob → ℕ → ℕ
word_at job word = goal_number (parts_at job word)

-- the goal is that of the logical expression
abbrev pub IsTransformed : Phase → ExprParts → GoalKind → Type 0
IsTransformed phase e goal = IsTrue (is_logical e.operator) × (goal ≡ phase_goal_of_expr phase e)

-- the goal is that of the physical expression, which may serve the request
pub record IsServed (q : Query) (wanted : Request) (e : ExprParts) (goal : GoalKind) : Type 0 where
  pub physical : PhysicalExpr
  pub is : e ≡ expr_of physical
  pub mode : ℕ
  pub serves : HasAlternative q physical wanted mode
  pub number : goal ≡ OptE physical wanted

-- the expression has the goal for the job
abbrev pub IsGoalOf : Query → MemberJob → ExprParts → GoalKind → Type 0
IsGoalOf q (Transform phase) e goal = IsTransformed phase e goal
IsGoalOf q (Serve wanted) e goal = IsServed q wanted e goal

-- the goal is that of the candidate of the word
abbrev pub IsGoalOfWord : Query → MemberJob → ℕ → GoalKind → Type 0
IsGoalOfWord q job word goal = (e : ExprParts) × IsCandidate q e × (word_of e ≡ word) × IsGoalOf q job e goal

-- the goal is that of the candidate of one of the words
abbrev pub IsGoalAmong : Query → MemberJob → List ℕ → GoalKind → Type 0
IsGoalAmong q job words goal = (word : ℕ) × Contains words word × IsGoalOfWord q job word goal

-- none of the candidates of the words has a goal for the job
abbrev pub HaveNoGoals : Query → MemberJob → List ℕ → Type 0
HaveNoGoals q job words = (goal : GoalKind) → IsGoalAmong q job words goal → ⊥

-- the goal is that of the first of the words that has one
pub record IsFirstGoal (q : Query) (job : MemberJob) (words : List ℕ) (goal : GoalKind) : Type 0 where
  pub place : ℕ
  pub within : place < length words
  pub expr : ExprParts
  pub candidate : IsCandidate q expr
  pub word : word_of expr ≡ slice_index words place
  pub is_goal : IsGoalOf q job expr goal
  pub before : HaveNoGoals q job (take place words)
