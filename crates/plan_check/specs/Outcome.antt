-- What is found out of a plan that is given.
use Rattle.std.specs.Prelude.{ℕ, ◌≡◌, ◌-◌, ◌^◌, ◌≤◌, ◌<◌, length, min, All, Result, Ok, Err}
use Rattle.query_core.specs.Expressions.{IsCandidate}
use Rattle.query_core.specs.declared.query.Query.{Query}
use Rattle.request_props.specs.Satisfied.{Satisfies}
use Rattle.request_props.specs.declared.request.Request.{Request}
use Rattle.plan_space.specs.Nodes.{Tree}
use Rattle.plan_space.specs.Gives.{gives}
use Rattle.plan_space.specs.Valid.{IsValid}
use Rattle.plan_space.specs.Cost.{cost_of}
use Rattle.plan_tree.specs.Spells.{Spells}
use Rattle.plan_tree.specs.declared.plan.Plan.{Plan}
use Rattle.plan_check.specs.Places.{IsFirstWithout, IsLastWithout}
use Rattle.plan_check.specs.Preorder.{nodes_of, plans_in}
use Rattle.plan_check.specs.Nodes.{IsNodeOf}
use Rattle.plan_check.specs.Kids.{RootHasKids, RootFits}
use Rattle.plan_check.specs.declared.fault.PlanFault.{PlanFault}
use Rattle.plan_check.specs.declared.fault.PlanFault.TheVariants.{TooLarge, Shape, Kids, Needs, Unsatisfied}

-- how many nodes a plan may have
abbrev pub most_nodes : ℕ
most_nodes = 1000

abbrev pub IsSmall : Plan → Type 0
IsSmall plan = length (nodes_of plan) ≤ most_nodes

-- the plan has too many nodes, and so many, or the greatest number of 64 bits where that is less
pub record IsTooLarge (plan : Plan) (nodes : ℕ) : Type 0 where
  pub many : most_nodes < length (nodes_of plan)
  pub told : nodes ≡ min (length (nodes_of plan)) (2 ^ 64 - 1)

-- in a plan of few enough nodes this is the first whose number is that of no node of the query
pub record HasShapeFault (q : Query) (plan : Plan) (node : ℕ) : Type 0 where
  pub small : IsSmall plan
  pub first : IsFirstWithout (IsNodeOf q) (nodes_of plan) node

-- the plan is this tree of nodes of the query, few enough
pub record IsTreeOf (q : Query) (plan : Plan) (tree : Tree) : Type 0 where
  pub small : IsSmall plan
  pub known : All (IsNodeOf q) (nodes_of plan)
  pub spells : Spells plan tree

-- in a tree of nodes of the query this is the last whose kids are wrong in number or group
pub record HasKidsFault (q : Query) (plan : Plan) (node : ℕ) : Type 0 where
  pub tree : Tree
  pub is_tree : IsTreeOf q plan tree
  pub last : IsLastWithout (RootHasKids q) (plans_in tree) node

-- in a tree with the right kids this is the first node whose kids don't give what it needs, or whose order or list
-- doesn't lie in its group
pub record HasNeedsFault (q : Query) (plan : Plan) (node : ℕ) : Type 0 where
  pub tree : Tree
  pub is_tree : IsTreeOf q plan tree
  pub kids : All (RootHasKids q) (plans_in tree)
  pub first : IsFirstWithout (RootFits q) (plans_in tree) node

-- the plan is a valid tree, which doesn't give what is asked for
pub record IsUnsatisfied (q : Query) (plan : Plan) (request : Request) : Type 0 where
  pub tree : Tree
  pub is_tree : IsTreeOf q plan tree
  pub valid : IsValid (IsCandidate q) q tree
  pub unmet : Satisfies q (gives q tree) request → ⊥

-- the plan is a valid tree of this cost, which gives what is asked for
pub record IsGood (q : Query) (plan : Plan) (request : Request) (cost : ℕ) : Type 0 where
  pub tree : Tree
  pub is_tree : IsTreeOf q plan tree
  pub valid : IsValid (IsCandidate q) q tree
  pub satisfies : Satisfies q (gives q tree) request
  pub costs : cost ≡ cost_of q tree

-- the fault is the plan's
abbrev pub HasFault : Query → Plan → Request → PlanFault → Type 0
HasFault q plan request (TooLarge nodes) = IsTooLarge plan nodes
HasFault q plan request (Shape node) = HasShapeFault q plan node
HasFault q plan request (Kids node) = HasKidsFault q plan node
HasFault q plan request (Needs node) = HasNeedsFault q plan node
HasFault q plan request Unsatisfied = IsUnsatisfied q plan request

-- the cost or the fault of the plan
abbrev pub IsOutcome : Query → Plan → Request → Result ℕ PlanFault → Type 0
IsOutcome q plan request (Ok cost) = IsGood q plan request cost
IsOutcome q plan request (Err fault) = HasFault q plan request fault
