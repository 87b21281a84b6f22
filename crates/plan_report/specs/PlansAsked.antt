-- What the root of a least plan stands over: least plans for other requests, of goals with lesser ranks.
use Rattle.std.specs.Prelude.{ℕ, ◌≡◌, ◌<◌, List, [], ◌∷◌, ⊤}
use Rattle.query_core.specs.declared.query.Query.{Query}
use Rattle.query_core.specs.declared.words.KeyParts.{KeyParts}
use Rattle.xform_rules.specs.Closure.{IsMember}
use Rattle.request_props.specs.declared.request.Request.{Request}
use Rattle.plan_space.specs.Nodes.{Tree, leaf, over, two}
use Rattle.plan_space.specs.declared.nodes.NodeKind.{NodeKind}
use Rattle.plan_space.specs.Least.{IsLeast}
use Rattle.plan_space.specs.Choices.{IsChoice}
use Rattle.plan_tree.specs.Nodes.{IsNode}
use Rattle.plan_tree.specs.Seen.{root_node}
use Rattle.plan_tree.specs.Spells.{Spells}
use Rattle.plan_tree.specs.declared.node.Node.{Node}
use Rattle.plan_tree.specs.declared.plan.Plan.{Plan}
use Rattle.goal_space.specs.Goals.{IsGoal}
use Rattle.goal_space.specs.Ranks.{rank_of}
use Rattle.goal_space.specs.declared.goals.GoalKind.{GoalKind}
use Rattle.goal_space.specs.declared.goals.GoalKind.TheVariants.{Opt}
use Rattle.plan_report.specs.declared.plans_asked.PlanAsked.{PlanAsked}
use Rattle.plan_report.specs.declared.plans_asked.PlansAsked.{PlansAsked}
use Rattle.plan_report.specs.declared.plans_asked.PlansAsked.TheVariants.{Zero, One, Two}

-- the goal of a group for a request
abbrev pub goal_of : PlanAsked → GoalKind
goal_of at = Opt at.group at.wanted

-- the least plan of the group for the request
abbrev pub IsLeastAt : Query → PlanAsked → Tree → Type 0
IsLeastAt q at plan = IsLeast (IsMember q) q at.group at.wanted plan

-- the least plan, which is a choice, and has the node of this number at its root
pub record IsChosen (q : Query) (at : PlanAsked) (node : Node) (plan : Tree) : Type 0 where
  pub least : IsLeastAt q at plan
  pub choice : IsChoice (IsMember q) q at.group at.wanted plan
  pub is_node : IsNode node (root_node plan)

-- the least plan, which is a choice, and has this node at its root
pub record IsRooted (q : Query) (at : PlanAsked) (node : NodeKind) (plan : Tree) : Type 0 where
  pub least : IsLeastAt q at plan
  pub choice : IsChoice (IsMember q) q at.group at.wanted plan
  pub root : root_node plan ≡ node

-- the groups that are linked
abbrev pub groups_asked : PlansAsked → List KeyParts
groups_asked Zero = []
groups_asked (One below) = below.group ∷ []
groups_asked (Two first second) = first.group ∷ second.group ∷ []

-- what is asked of each
abbrev pub wishes_asked : PlansAsked → List Request
wishes_asked Zero = []
wishes_asked (One below) = below.wanted ∷ []
wishes_asked (Two first second) = first.wanted ∷ second.wanted ∷ []

-- the links are to these groups, with these requests
pub record ArePlansAsked (groups : List KeyParts) (wishes : List Request) (plans_asked : PlansAsked) : Type 0 where
  pub groups_are : groups_asked plans_asked ≡ groups
  pub wishes_are : wishes_asked plans_asked ≡ wishes

-- the plan is its root over the least plans of these groups for these requests
abbrev pub IsOver : Query → PlansAsked → Tree → Type 0
IsOver q Zero plan = plan ≡ leaf (root_node plan)
IsOver q (One below) plan = (kid : Tree) × IsLeastAt q below kid × (plan ≡ over (root_node plan) kid)
IsOver q (Two first second) plan = (left right : Tree) × IsLeastAt q first left × IsLeastAt q second right
    × (plan ≡ two (root_node plan) left right)

-- a goal of the query with a rank below this one
pub record IsLower (q : Query) (rank : ℕ) (at : PlanAsked) : Type 0 where
  pub is_goal : IsGoal q (goal_of at)
  pub lower : rank_of (goal_of at) < rank

-- so is each of these
abbrev pub AreLower : Query → ℕ → PlansAsked → Type 0
AreLower q rank Zero = ⊤
AreLower q rank (One below) = IsLower q rank below
AreLower q rank (Two first second) = IsLower q rank first × IsLower q rank second

-- the plan is a least plan of the group for the request
abbrev pub IsLeastFor : Query → PlanAsked → Plan → Type 0
IsLeastFor q at plan = (tree : Tree) × Spells plan tree × IsLeastAt q at tree
