-- When a tree is a plan of the query.
use Rattle.std.specs.Prelude.{ℕ, ◌≡◌, IsTrue, ◌≤◌, List, [], ◌∷◌, Option, None, Some, ⊤}
use Rattle.query_core.specs.Expressions.{expr_of, physical_children}
use Rattle.query_core.specs.declared.query.Query.{Query}
use Rattle.query_core.specs.declared.expressions.Children.{Children}
use Rattle.query_core.specs.declared.expressions.Children.TheVariants as arities
use Rattle.query_core.specs.declared.expressions.ExprParts.{ExprParts}
use Rattle.query_core.specs.declared.expressions.PhysicalExpr.{PhysicalExpr}
use Rattle.cost_units.specs.declared.shape.Class.TheVariants as classes
use Rattle.request_props.specs.Numbered.{IsNumbered, order_of, is_grouped_list}
use Rattle.request_props.specs.Satisfied.{Meets, BeginsWith, given_order, Satisfies}
use Rattle.request_props.specs.declared.given.Given.{Given}
use Rattle.request_props.specs.declared.given.GivenDist.{GivenDist}
use Rattle.request_props.specs.declared.given.GivenOrder.{GivenOrder}
use Rattle.request_props.specs.declared.request.Dist.TheVariants as dists
use Rattle.request_props.specs.declared.request.Request.{Request}
use Rattle.request_props.specs.Lying.{OrderLiesIn}
use Rattle.request_props.specs.Fitting.{HashFits}
use Rattle.request_props.specs.Dists.{class_of}
use Rattle.plan_space.specs.Nodes.{Tree, leaf, over, two}
use Rattle.plan_space.specs.declared.nodes.NodeKind.{NodeKind}
use Rattle.plan_space.specs.declared.nodes.NodeKind.TheVariants as nodes
use Rattle.plan_space.specs.declared.nodes.Enforcer.{Enforcer}
use Rattle.plan_space.specs.declared.nodes.Enforcer.TheVariants as enforcers
use Rattle.plan_space.specs.Lines.{line_of}
use Rattle.plan_space.specs.declared.lines.LeftDist.{LeftDist}
use Rattle.plan_space.specs.declared.lines.LeftDist.TheVariants as left_dists
use Rattle.plan_space.specs.declared.lines.LeftOrder.{LeftOrder}
use Rattle.plan_space.specs.declared.lines.LeftOrder.TheVariants as left_orders
use Rattle.plan_space.specs.declared.lines.Line.{Line}
use Rattle.plan_space.specs.declared.lines.Line.TheVariants as lines
use Rattle.plan_space.specs.declared.seen.Kid.{Kid}
use Rattle.plan_space.specs.Gives.{kid_of}

-- rows that lie so are shared out among the segments
abbrev pub IsSpread : GivenDist → Type 0
IsSpread dist = class_of dist ≡ classes.Spread

-- ---- what is needed of the kids

-- the left child's distribution is one that the line needs; that of an aggregation is by GROUP BY columns only
abbrev pub DistNeeds : Query → LeftDist → GivenDist → Type 0
DistNeeds q (left_dists.Fixed given asked) dist = Meets dist asked
DistNeeds q (left_dists.Grouped list) dist = IsTrue (is_grouped_list q list) × Meets dist (dists.Hashed list)
DistNeeds q left_dists.Same dist = ⊤
DistNeeds q left_dists.SameSpread dist = IsSpread dist

-- the left child's order is one that the line needs
abbrev pub OrderNeeds : Query → LeftOrder → GivenOrder → Type 0
OrderNeeds q (left_orders.Fixed given asked) order = BeginsWith (given_order q order) (order_of q asked)
OrderNeeds q left_orders.Same order = ⊤

-- what the left child gives is what the line needs
pub record LeftNeeds (q : Query) (dist : LeftDist) (order : LeftOrder) (given : Given) : Type 0 where
  pub dist_met : DistNeeds q dist given.dist
  pub order_met : OrderNeeds q order given.order

-- there is one kid, and the fact holds of it
abbrev pub OverOne : (Kid → Type 0) → List Kid → Type 0
OverOne Fact [] = ⊥
OverOne Fact (kid ∷ []) = Fact kid
OverOne Fact (kid ∷ other ∷ others) = ⊥

-- there are two kids, and the fact holds of them
abbrev pub OverTwo : (Kid → Kid → Type 0) → List Kid → Type 0
OverTwo Fact [] = ⊥
OverTwo Fact (kid ∷ []) = ⊥
OverTwo Fact (left ∷ right ∷ []) = Fact left right
OverTwo Fact (left ∷ right ∷ other ∷ others) = ⊥

-- the kid is a plan of the one child, and gives what the line needs
pub record OneFits (q : Query) (children : Children) (dist : LeftDist) (order : LeftOrder) (kid : Kid) : Type 0 where
  pub of_child : children ≡ arities.One kid.group
  pub left : LeftNeeds q dist order kid.given

-- the kids are plans of the two children, and give what the line needs
pub record TwoFit (q : Query) (children : Children) (dist : LeftDist) (order : LeftOrder) (request : Request)
    (first second : Kid) : Type 0 where
  pub of_children : children ≡ arities.Two first.group second.group
  pub left : LeftNeeds q dist order first.given
  pub right : Satisfies q second.given request

-- the line may stand over kids like these, where the children are these groups
abbrev pub LineFits : Query → Line → Children → List Kid → Type 0
LineFits q (lines.Leaf dist order) children kids = (children ≡ arities.Zero) × (kids ≡ [])
LineFits q (lines.Above dist order) children kids = OverOne (OneFits q children dist order) kids
LineFits q (lines.Beside dist order request) children kids = OverTwo (TwoFit q children dist order request) kids

-- the same for a mode that may not be there
abbrev pub FitsBy : Query → Option Line → Children → List Kid → Type 0
FitsBy q None children kids = ⊥
FitsBy q (Some line) children kids = LineFits q line children kids

-- the expression may stand in the mode over kids like these
abbrev pub NativeFits : Query → PhysicalExpr → ℕ → List Kid → Type 0
NativeFits q e mode kids = FitsBy q (line_of q e mode) (physical_children e.operator) kids

-- ---- enforcers

-- the order isn't empty, has the number, and lies in the kid's group
pub record CanSort (q : Query) (order : ℕ) (kid : Kid) : Type 0 where
  pub not_empty : 1 ≤ order
  pub numbered : IsNumbered q order
  pub lies_in : OrderLiesIn q kid.group (order_of q order)

-- the order may be kept while the kid's segments are merged
pub record CanMerge (q : Query) (order : ℕ) (kid : Kid) : Type 0 where
  pub can_sort : CanSort q order kid
  pub is_spread : IsSpread kid.given.dist
  pub has_order : BeginsWith (given_order q kid.given.order) (order_of q order)

-- the kid's rows may be moved to where the hash of the list says
pub record CanRedistribute (q : Query) (list : ℕ) (kid : Kid) : Type 0 where
  pub is_spread : IsSpread kid.given.dist
  pub hash_fits : HashFits q kid.group list

-- the enforcer may stand over a kid like this
abbrev pub EnforcerFits : Query → Enforcer → Kid → Type 0
EnforcerFits q enforcers.Gather kid = IsSpread kid.given.dist
EnforcerFits q enforcers.Broadcast kid = IsSpread kid.given.dist
EnforcerFits q (enforcers.Sort order) kid = CanSort q order kid
EnforcerFits q (enforcers.GatherMerge order) kid = CanMerge q order kid
EnforcerFits q (enforcers.Redistribute list) kid = CanRedistribute q list kid

-- ---- valid plans

-- the node may stand over kids like these: a member in a mode, or an enforcer over one kid
abbrev pub NodeFits : (ExprParts → Type 0) → Query → NodeKind → List Kid → Type 0
NodeFits Member q (nodes.Native e mode) kids = Member (expr_of e) × NativeFits q e mode kids
NodeFits Member q (nodes.Enforcer e) kids = OverOne (EnforcerFits q e) kids

-- each node may stand over its kids; Member says which group expressions are there
abbrev pub IsValid : (ExprParts → Type 0) → Query → Tree → Type 0
IsValid Member q (leaf node) = NodeFits Member q node []
IsValid Member q (over node kid) = IsValid Member q kid × NodeFits Member q node (kid_of q kid ∷ [])
IsValid Member q (two node left right) =
    IsValid Member q left × IsValid Member q right × NodeFits Member q node (kid_of q left ∷ kid_of q right ∷ [])
