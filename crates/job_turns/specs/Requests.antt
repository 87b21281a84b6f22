-- Which goals and which nodes stand behind the least plan of a group for a request.
use Rattle.std.specs.Prelude.{◌≡◌, ◌⊎◌, ℕ, Option, None, Some, List, slice_get}
use Rattle.query_core.specs.declared.query.Query.{Query}
use Rattle.query_core.specs.declared.words.Goal.{Goal}
use Rattle.query_core.specs.declared.words.KeyParts.{KeyParts}
use Rattle.query_core.specs.declared.expressions.PhysicalExpr.{PhysicalExpr}
use Rattle.xform_rules.specs.Closure.{IsMember}
use Rattle.request_props.specs.declared.request.Request.{Request}
use Rattle.plan_space.specs.Enforcers.{EnforcedBy, enforcers_of}
use Rattle.plan_space.specs.declared.nodes.NodeKind.TheVariants as nodes
use Rattle.best_answers.specs.Nodes.{Nodes, no_nodes, one_node, both_of, IsIn}
use Rattle.best_answers.specs.Best.{IsBest}
use Rattle.best_answers.specs.declared.best.Best.{Best}
use Rattle.board_rule.specs.Looks.{ShowsFinished}
use Rattle.goal_space.specs.Children.{CanServe, CanEnforce}
use Rattle.goal_space.specs.Goals.{IsGoal}
use Rattle.goal_space.specs.Words.{goal_word}
use Rattle.goal_space.specs.declared.goals.GoalKind.{GoalKind}
use Rattle.goal_space.specs.declared.goals.GoalKind.TheVariants.{Imp, Opt, OptE}
use Rattle.goal_rules.specs.Meaning.{meaning_of}

-- the looks show all members of the group in cells: its implementation is a goal, and finished
pub record IsImplemented (q : Query) (capacity : ℕ) (looks : List (ℕ × ℕ)) (group : KeyParts) : Type 0 where
  pub is_goal : IsGoal q (Imp group)
  pub finished : ShowsFinished (meaning_of q) capacity looks (goal_word (Imp group))

-- ---- members

-- the goal of a member of the group that may serve the request
abbrev pub IsMemberGoal : Query → KeyParts → Request → GoalKind → Type 0
IsMemberGoal q group wanted child = (e : PhysicalExpr) × CanServe (IsMember q) q group wanted e
    × (child ≡ OptE e wanted)

-- the best answer of some nodes, among them all such members in all modes
pub record IsBestOfMembers (q : Query) (group : KeyParts) (wanted : Request) (best : Option Best) : Type 0 where
  pub set : Nodes
  pub has : (e : PhysicalExpr) (mode : ℕ) → CanServe (IsMember q) q group wanted e → IsIn set (nodes.Native e mode)
  pub is_best : IsBest q group wanted set best

-- the goal of this expression, if it is such a member of its group
abbrev pub IsGoalOfMember : Query → PhysicalExpr → Request → GoalKind → Type 0
IsGoalOfMember q e wanted child = CanServe (IsMember q) q e.group wanted e × (child ≡ OptE e wanted)

-- the word of that goal, or there is none
abbrev pub IsWordOfMember : Query → PhysicalExpr → Request → Option Goal → Type 0
IsWordOfMember q e wanted None = CanServe (IsMember q) q e.group wanted e → ⊥
IsWordOfMember q e wanted (Some word) = CanServe (IsMember q) q e.group wanted e × (goal_word (OptE e wanted) ≡ word.0)

-- the best answer of some nodes, among them this expression in all modes, if it is such a member
pub record IsBestOfMember (q : Query) (e : PhysicalExpr) (wanted : Request) (best : Option Best) : Type 0 where
  pub set : Nodes
  pub has : (mode : ℕ) → CanServe (IsMember q) q e.group wanted e → IsIn set (nodes.Native e mode)
  pub is_best : IsBest q e.group wanted set best

-- ---- enforcers

-- this enforcer alone, if there is one
abbrev pub enforcer_alone : Option EnforcedBy → Nodes
enforcer_alone None = no_nodes
enforcer_alone (Some e) = one_node (nodes.Enforcer e.node)

-- the enforcer for the request at this place
abbrev pub enforcer_at : Request → ℕ → Nodes
enforcer_at wanted place = enforcer_alone (slice_get (enforcers_of wanted) place)

-- the first two enforcers for the request
abbrev pub first_enforcers : Request → Nodes
first_enforcers wanted = both_of (enforcer_at wanted 0) (enforcer_at wanted 1)

-- the goal of what the enforcer at this place asks
abbrev pub IsEnforcerGoalAt : KeyParts → Request → ℕ → GoalKind → Type 0
IsEnforcerGoalAt group wanted place child = (e : EnforcedBy) × (slice_get (enforcers_of wanted) place ≡ Some e)
    × (child ≡ Opt group e.below)

-- the goal of what an enforcer for the request asks
abbrev pub IsEnforcerGoal : Query → KeyParts → Request → GoalKind → Type 0
IsEnforcerGoal q group wanted child = (e : EnforcedBy) × CanEnforce q group wanted e × (child ≡ Opt group e.below)

-- the goal of a member or of an enforcer
abbrev pub IsPlanGoal : Query → KeyParts → Request → GoalKind → Type 0
IsPlanGoal q group wanted child = IsMemberGoal q group wanted child ⊎ IsEnforcerGoal q group wanted child
