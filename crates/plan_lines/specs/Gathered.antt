-- What is gathered of a plan's nodes, from the leaves up: a node's own stands behind what those below it have.
use Rattle.std.specs.Prelude.{◌≡◌, List, ◌++◌, reverse}
use Rattle.query_core.specs.declared.query.Query.{Query}
use Rattle.plan_space.specs.Gives.{kid_of, kid_under}
use Rattle.plan_space.specs.Nodes.{Tree}
use Rattle.plan_space.specs.declared.nodes.NodeKind.{NodeKind}
use Rattle.plan_space.specs.declared.seen.Kid.{Kid}
use Rattle.plan_tree.specs.Nodes.{IsNode}
use Rattle.plan_tree.specs.Seen.{kids_seen, HasGroup, HaveGroups}
use Rattle.plan_tree.specs.Spells.{Spells}
use Rattle.plan_tree.specs.declared.node.Node.{Node}
use Rattle.plan_tree.specs.declared.plan.Plan.{Plan}
use Rattle.plan_tree.specs.declared.seen.Kids.{Kids}
use Rattle.plan_lines.specs.Groups.{HasGroups}

-- the group of the plan, whichever tree it is, and what that gives
abbrev pub IsKidOf : Query → Plan → Kid → Type 0
IsKidOf q plan kid = (tree : Tree) → Spells plan tree → kid ≡ kid_of q tree

-- the same of a plan with this node at its root, over plans that are seen so
abbrev pub IsKidUnder : Query → Node → Kids → Kid → Type 0
IsKidUnder q node below kid = (kind : NodeKind) → IsNode node kind → kid ≡ kid_under q kind (kids_seen below)

-- the node's own was added behind the others, its last element first, where the groups are the query's
abbrev pub AddsNode : {A : Type 0} → Query → (NodeKind → List Kid → List A) → Node → Kids → List A → List A → Type 0
AddsNode q own node below before after =
    (kind : NodeKind) → IsNode node kind → HasGroup q kind → HaveGroups q below
    → after ≡ before ++ reverse (own kind (kids_seen below))

-- all of the plan, whichever tree it is, was added behind the others, its last element first
abbrev pub AddsPlan : {A : Type 0} → Query → (Tree → List A) → Plan → List A → List A → Type 0
AddsPlan q all plan before after =
    (tree : Tree) → Spells plan tree → HasGroups q tree → after ≡ before ++ reverse (all tree)
