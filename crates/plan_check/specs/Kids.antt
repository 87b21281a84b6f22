-- What a node needs of the plans below it.
use Rattle.std.specs.Prelude.{List, [], ◌∷◌, ⊤}
use Rattle.query_core.specs.Expressions.{physical_children, IsCandidate}
use Rattle.query_core.specs.declared.query.Query.{Query}
use Rattle.plan_space.specs.declared.nodes.NodeKind.{NodeKind}
use Rattle.plan_space.specs.declared.nodes.NodeKind.TheVariants as nodes
use Rattle.plan_space.specs.Nodes.{Tree, leaf, over, two}
use Rattle.plan_space.specs.declared.seen.Kid.{Kid}
use Rattle.plan_space.specs.Gives.{kid_of}
use Rattle.plan_space.specs.Valid.{OverOne, NodeFits}
use Rattle.plan_space.specs.Choices.{groups_of}
use Rattle.plan_space.specs.Laws.{AreOf}
use Rattle.plan_tree.specs.Seen.{root_node}

-- what the root of a plan sees of the plans below it
abbrev pub kids_of : Query → Tree → List Kid
kids_of q (leaf node) = []
kids_of q (over node kid) = kid_of q kid ∷ []
kids_of q (two node left right) = kid_of q left ∷ kid_of q right ∷ []

-- there is one kid
abbrev pub IsOne : List Kid → Type 0
IsOne kids = OverOne (λ kid. ⊤) kids

-- an expression has a plan of each of its children, in order, and an enforcer has one kid
abbrev pub HasKids : NodeKind → List Kid → Type 0
HasKids (nodes.Native e mode) kids = AreOf (groups_of (physical_children e.operator)) kids
HasKids (nodes.Enforcer e) kids = IsOne kids

-- the kids of the plan's root are right in number and group
abbrev pub RootHasKids : Query → Tree → Type 0
RootHasKids q plan = HasKids (root_node plan) (kids_of q plan)

-- the plan's root may stand over its kids: they give what it needs, and its order or list lies in their group
abbrev pub RootFits : Query → Tree → Type 0
RootFits q plan = NodeFits (IsCandidate q) q (root_node plan) (kids_of q plan)
