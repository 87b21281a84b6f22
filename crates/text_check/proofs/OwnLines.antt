-- The lines of a plan: its root's, and behind it those of the plans below.
use Rattle.std.proofs.Common.{[], ◌∷◌, refl}
use Rattle.query_core.specs.declared.query.Query.{Query}
use Rattle.plan_space.specs.Nodes.{Tree, leaf, over, two}
use Rattle.plan_space.specs.declared.nodes.NodeKind.{NodeKind}
use Rattle.plan_space.specs.declared.nodes.NodeKind.TheVariants as nodes
use Rattle.plan_tree.specs.Seen.{HasGroup}
use Rattle.plan_check.specs.Nodes.{IsKindOf}
use Rattle.plan_lines.specs.Groups.{HasGroups}
use Rattle.plan_lines.proofs.Gathered.{IsPreorder}
use Rattle.plan_reading.specs.Outline.{IsPlanTree}
use Rattle.text_check.specs.OwnLines.{own_line, own_lines}

-- the root's line stands before those below it
pub root_first : (q : Query) → IsPreorder q (λ kind kids. own_line q kind kids ∷ []) (own_lines q) (own_lines q)
root_first q = record { of_leaf = λ kind. refl; of_over = λ kind kid. refl; of_two = λ kind left right. refl }

-- the groups of nodes of the query are the query's
kind_group : (q : Query) (node : NodeKind) → IsKindOf q node → HasGroup q node
kind_group q (nodes.Native e mode) is = is.candidate.known
kind_group q (nodes.Enforcer e) is = tt

pub tree_groups : (q : Query) (tree : Tree) → IsPlanTree q tree → HasGroups q tree
tree_groups q (leaf node) is = kind_group q node is.0
tree_groups q (over node kid) is = (kind_group q node is.1, tree_groups q kid is.0)
tree_groups q (two node left right) is = (kind_group q node is.2, tree_groups q left is.0, tree_groups q right is.1)
