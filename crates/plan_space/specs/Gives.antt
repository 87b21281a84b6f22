-- Of which group a plan is, and what it gives, from the leaves up.
use Rattle.std.specs.Prelude.{ℕ, List, [], ◌∷◌, Option, None, Some}
use Rattle.query_core.specs.declared.query.Query.{Query}
use Rattle.query_core.specs.declared.words.KeyParts.{KeyParts}
use Rattle.query_core.specs.declared.words.KeyParts.TheVariants.{Get}
use Rattle.query_core.specs.declared.expressions.PhysicalExpr.{PhysicalExpr}
use Rattle.request_props.specs.declared.given.Given.{Given}
use Rattle.request_props.specs.declared.given.GivenDist.{GivenDist}
use Rattle.request_props.specs.declared.given.GivenDist.TheVariants.{One, Hashed, Copies}
use Rattle.request_props.specs.declared.given.GivenOrder.{GivenOrder}
use Rattle.request_props.specs.declared.given.GivenOrder.TheVariants.{Listed}
use Rattle.plan_space.specs.Nodes.{Tree, leaf, over, two}
use Rattle.plan_space.specs.declared.nodes.NodeKind.{NodeKind}
use Rattle.plan_space.specs.declared.nodes.NodeKind.TheVariants as nodes
use Rattle.plan_space.specs.declared.nodes.Enforcer.{Enforcer}
use Rattle.plan_space.specs.declared.nodes.Enforcer.TheVariants as enforcers
use Rattle.plan_space.specs.declared.seen.Kid.{Kid}
use Rattle.plan_space.specs.Lines.{line_of}
use Rattle.plan_space.specs.declared.lines.LeftDist.{LeftDist}
use Rattle.plan_space.specs.declared.lines.LeftDist.TheVariants as left_dists
use Rattle.plan_space.specs.declared.lines.LeftOrder.{LeftOrder}
use Rattle.plan_space.specs.declared.lines.LeftOrder.TheVariants as left_orders
use Rattle.plan_space.specs.declared.lines.Line.{Line}
use Rattle.plan_space.specs.declared.lines.Line.TheVariants as lines

abbrev pub gives_so : GivenDist → GivenOrder → Given
gives_so dist order = record { dist = dist; order = order }

-- the group of the first of a node's kids
abbrev pub first_group : List Kid → KeyParts
first_group [] = Get 0
first_group (kid ∷ others) = kid.group

-- what the first of a node's kids gives
abbrev pub first_given : List Kid → Given
first_given [] = gives_so One (Listed 0)
first_given (kid ∷ others) = kid.given

-- the distribution that a line gives over a left child of this one
abbrev pub left_dist : LeftDist → GivenDist → GivenDist
left_dist (left_dists.Fixed given asked) dist = given
left_dist (left_dists.Grouped list) dist = Hashed list
left_dist left_dists.Same dist = dist
left_dist left_dists.SameSpread dist = dist

-- the order that a line gives over a left child in this one
abbrev pub left_order : LeftOrder → GivenOrder → GivenOrder
left_order (left_orders.Fixed given asked) order = given
left_order left_orders.Same order = order

-- what a line gives over a left child that gives this
abbrev pub left_gives : LeftDist → LeftOrder → Given → Given
left_gives dist order given = gives_so (left_dist dist given.dist) (left_order order given.order)

-- what a line gives over its kids
abbrev pub line_gives : Line → List Kid → Given
line_gives (lines.Leaf dist order) kids = gives_so dist order
line_gives (lines.Above dist order) kids = left_gives dist order (first_given kids)
line_gives (lines.Beside dist order right) kids = left_gives dist order (first_given kids)

-- the same for a mode that may not be there
abbrev pub gives_by : Option Line → List Kid → Given
gives_by None kids = first_given []
gives_by (Some line) kids = line_gives line kids

-- what a physical expression gives in a mode
abbrev pub native_gives : Query → PhysicalExpr → ℕ → List Kid → Given
native_gives q e mode kids = gives_by (line_of q e mode) kids

-- what an enforcer gives over a plan that gives this
abbrev pub enforcer_gives : Enforcer → Given → Given
enforcer_gives enforcers.Gather given = gives_so One (Listed 0)
enforcer_gives enforcers.Broadcast given = gives_so Copies (Listed 0)
enforcer_gives (enforcers.Sort order) given = gives_so given.dist (Listed order)
enforcer_gives (enforcers.GatherMerge order) given = gives_so One (Listed order)
enforcer_gives (enforcers.Redistribute list) given = gives_so (Hashed list) (Listed 0)

-- the group of a plan with this node at its root: an enforcer stays in the group of its kid
abbrev pub node_group : NodeKind → List Kid → KeyParts
node_group (nodes.Native e mode) kids = e.group
node_group (nodes.Enforcer e) kids = first_group kids

-- what a node gives over its kids
abbrev pub node_gives : Query → NodeKind → List Kid → Given
node_gives q (nodes.Native e mode) kids = native_gives q e mode kids
node_gives q (nodes.Enforcer e) kids = enforcer_gives e (first_given kids)

abbrev pub kid_under : Query → NodeKind → List Kid → Kid
kid_under q node kids = record { group = node_group node kids; given = node_gives q node kids }

-- what is seen of a plan
abbrev pub kid_of : Query → Tree → Kid
kid_of q (leaf node) = kid_under q node []
kid_of q (over node kid) = kid_under q node (kid_of q kid ∷ [])
kid_of q (two node left right) = kid_under q node (kid_of q left ∷ kid_of q right ∷ [])

-- what a plan gives
abbrev pub gives : Query → Tree → Given
gives q plan = (kid_of q plan).given
