-- What the program says of a walk over a plan.
use Rattle.std.specs.Prelude.{ℕ, Bool, true, false, ◌≡◌, ◌↔◌, ◌+◌, ◌*◌, ◌<◌, ◌≤◌, IsTrue, IfSome, length}
use Rattle.std.specs.Prelude.{List, [], ◌∷◌, Option, None, Some, All}
use Rattle.std.specs.Option.{option_map}
use Rattle.cost_units.specs.Cost.{local_cost, most_cost}
use Rattle.query_core.specs.Expressions.{IsCandidate}
use Rattle.query_core.specs.declared.query.Query.{Query}
use Rattle.plan_space.specs.Nodes.{Tree}
use Rattle.plan_space.specs.declared.nodes.NodeKind.{NodeKind}
use Rattle.plan_space.specs.Cost.{shape_of, cost_of}
use Rattle.plan_space.specs.Gives.{kid_under, kid_of}
use Rattle.plan_space.specs.Valid.{NodeFits}
use Rattle.plan_tree.specs.Nodes.{IsNode}
use Rattle.plan_tree.specs.Seen.{kids_seen, HaveGroups}
use Rattle.plan_tree.specs.Spells.{Spells}
use Rattle.plan_tree.specs.declared.seen.Kids.{Kids}
use Rattle.plan_tree.specs.declared.node.Node.{Node}
use Rattle.plan_tree.specs.declared.plan.Plan.{Plan}
use Rattle.plan_tree.specs.declared.plan.Plan.TheVariants.{Leaf, Over', Two'}
use Rattle.plan_check.specs.Places.{IsFirstWithout, IsLastWithout}
use Rattle.plan_check.specs.Preorder.{nodes_of, plans_in}
use Rattle.plan_check.specs.Nodes.{IsNodeOf}
use Rattle.plan_check.specs.Kids.{HasKids, RootHasKids, RootFits}
use Rattle.plan_check.specs.declared.findings.Findings.{Findings}
use Rattle.plan_check.specs.declared.walk.Walked.{Walked}

-- ---- places

-- the first place where the fact is lacking, or none where it holds of all
abbrev pub IsFirst : {X : Type 0} → (X → Type 0) → List X → Option ℕ → Type 0
IsFirst Fact list None = All Fact list
IsFirst Fact list (Some place) = IsFirstWithout Fact list place

-- the last place where the fact is lacking, or none where it holds of all
abbrev pub IsLast : {X : Type 0} → (X → Type 0) → List X → Option ℕ → Type 0
IsLast Fact list None = All Fact list
IsLast Fact list (Some place) = IsLastWithout Fact list place

-- the place of one element that has the fact, or lacks it
abbrev pub own_place_of : Bool → Option ℕ
own_place_of true = None
own_place_of false = Some 0

-- a place in a list, or else one behind it
abbrev pub sooner_of : Option ℕ → ℕ → Option ℕ → Option ℕ
sooner_of None count right = option_map (λ place. count + place) right
sooner_of (Some place) count right = Some place

-- a place behind a list, or else one in it
abbrev pub later_of : Option ℕ → ℕ → Option ℕ → Option ℕ
later_of left count None = left
later_of left count (Some place) = Some (count + place)

-- ---- what is found out of nodes

-- the same of some nodes and those behind them
abbrev pub both_of : Findings → Findings → Findings
both_of front behind = record {
  nodes = front.nodes + behind.nodes;
  cost = front.cost + behind.cost;
  unknown = sooner_of front.unknown front.nodes behind.unknown;
  wrong = later_of front.wrong front.nodes behind.wrong;
  unfit = sooner_of front.unfit front.nodes behind.unfit;
}

-- no node costs more than a node may, and the places are those of nodes
pub record AreInBounds (found : Findings) : Type 0 where
  pub cost : found.cost ≤ found.nodes * most_cost
  pub unknown : IfSome found.unknown (λ place. place < found.nodes)
  pub wrong : IfSome found.wrong (λ place. place < found.nodes)
  pub unfit : IfSome found.unfit (λ place. place < found.nodes)

-- the nodes are so many, and this is the first that is none of the query
pub record AreNodes (q : Query) (nodes : List Node) (found : Findings) : Type 0 where
  pub count : found.nodes ≡ length nodes
  pub first : IsFirst (IsNodeOf q) nodes found.unknown

-- the plans are so many, and these are the last and the first whose roots are wrong
pub record ArePlans (q : Query) (plans : List Tree) (found : Findings) : Type 0 where
  pub count : found.nodes ≡ length plans
  pub last : IsLast (RootHasKids q) plans found.wrong
  pub first : IsFirst (RootFits q) plans found.unfit

-- ---- the walk

-- the node of the query is seen so over these plans, costs so much, and is right or wrong
pub record IsKindWalk (q : Query) (kind : NodeKind) (below : Kids) (walked : Walked) : Type 0 where
  pub kid : walked.kid ≡ kid_under q kind (kids_seen below)
  pub cost : HaveGroups q below → walked.findings.cost ≡ local_cost (shape_of q kind (kids_seen below))
  pub has_kids : Bool
  pub wrong : walked.findings.wrong ≡ own_place_of has_kids
  pub tells_kids : IsTrue has_kids ↔ HasKids kind (kids_seen below)
  pub fits : Bool
  pub unfit : walked.findings.unfit ≡ own_place_of fits
  pub tells_fits : IsTrue fits ↔ NodeFits (IsCandidate q) q kind (kids_seen below)

-- the number is that of a node of the query which was looked at so, or of none
pub record IsNodeWalk (q : Query) (node : Node) (below : Kids) (walked : Walked) : Type 0 where
  pub nodes : AreNodes q (node ∷ []) walked.findings
  pub kind : IsNodeOf q node → (kind : NodeKind) → IsNode node kind → IsKindWalk q kind below walked

-- the numbers of all nodes are those of nodes of the query
abbrev pub AreKnown : Query → Plan → Type 0
AreKnown q (Leaf node) = IsNodeOf q node
AreKnown q (Over' node pointer kid) = IsNodeOf q node × AreKnown q kid
AreKnown q (Two' node pointer left pointer' right) = IsNodeOf q node × AreKnown q left × AreKnown q right

-- the tree is seen so, costs so much, and this is found out of the plans in it
pub record IsTreeWalk (q : Query) (tree : Tree) (walked : Walked) : Type 0 where
  pub kid : walked.kid ≡ kid_of q tree
  pub cost : walked.findings.cost ≡ cost_of q tree
  pub plans : ArePlans q (plans_in tree) walked.findings

-- this is found out of the plan's nodes, and where all are nodes of the query, out of the tree that the plan is
pub record IsWalk (q : Query) (plan : Plan) (walked : Walked) : Type 0 where
  pub nodes : AreNodes q (nodes_of plan) walked.findings
  pub tree : AreKnown q plan → (tree : Tree) → Spells plan tree → IsTreeWalk q tree walked
