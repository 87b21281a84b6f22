-- What a node sees of the plans below it, as the program keeps it.
use Rattle.std.specs.Prelude.{List, [], ◌∷◌, ⊤}
use Rattle.query_core.specs.Keys.{IsGroup}
use Rattle.query_core.specs.declared.query.Query.{Query}
use Rattle.plan_space.specs.Nodes.{Tree, leaf, over, two}
use Rattle.plan_space.specs.declared.nodes.NodeKind.{NodeKind}
use Rattle.plan_space.specs.declared.nodes.NodeKind.TheVariants as nodes
use Rattle.plan_space.specs.declared.seen.Kid.{Kid}
use Rattle.plan_tree.specs.declared.seen.Kids.{Kids}
use Rattle.plan_tree.specs.declared.seen.Kids.TheVariants.{Nothing, One, Two}

-- what is seen of each plan below, the left one first
abbrev pub kids_seen : Kids → List Kid
kids_seen Nothing = []
kids_seen (One kid) = kid ∷ []
kids_seen (Two left right) = left ∷ right ∷ []

-- the node at the root of a plan
abbrev pub root_node : Tree → NodeKind
root_node (leaf node) = node
root_node (over node kid) = node
root_node (two node left right) = node

-- the group of an expression is one of the query's
abbrev pub HasGroup : Query → NodeKind → Type 0
HasGroup q (nodes.Native e mode) = IsGroup q e.group
HasGroup q (nodes.Enforcer e) = ⊤

-- the groups of the plans below are groups of the query
abbrev pub HaveGroups : Query → Kids → Type 0
HaveGroups q Nothing = ⊤
HaveGroups q (One kid) = IsGroup q kid.group
HaveGroups q (Two left right) = IsGroup q left.group × IsGroup q right.group
