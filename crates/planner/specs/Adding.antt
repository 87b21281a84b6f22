-- Nodes that are put behind others, the last one first.
use Rattle.std.specs.Prelude.{ℕ, ◌≡◌, List, [], ◌∷◌}
use Rattle.query_core.specs.declared.query.Query.{Query}
use Rattle.plan_lines.specs.Gathered.{AddsNode, AddsPlan}
use Rattle.plan_space.specs.declared.nodes.NodeKind.{NodeKind}
use Rattle.plan_tree.specs.Seen.{HasGroup, HaveGroups, kids_seen}
use Rattle.plan_tree.specs.declared.node.Node.{Node}
use Rattle.plan_tree.specs.declared.plan.Plan.{Plan}
use Rattle.plan_tree.specs.declared.seen.Kids.{Kids}
use Rattle.planner.specs.Nodes.{node_at, nodes_from}
use Rattle.planner.specs.declared.node.PlanNode.{PlanNode}

-- the node over plans that are seen so, where the groups are the query's
abbrev pub IsNodeOver : Query → ℕ → NodeKind → Kids → PlanNode → Type 0
IsNodeOver q depth kind below node =
    HasGroup q kind → HaveGroups q below → node ≡ node_at q depth kind (kids_seen below)

-- the node over these plans was put behind the others
abbrev pub AddsOneNode : Query → ℕ → Node → Kids → List PlanNode → List PlanNode → Type 0
AddsOneNode q depth node below before after =
    AddsNode q (λ kind kids. node_at q depth kind kids ∷ []) node below before after

-- the nodes of the plan were put behind the others
abbrev pub AddsNodes : Query → ℕ → Plan → List PlanNode → List PlanNode → Type 0
AddsNodes q depth plan before after = AddsPlan q (nodes_from q depth) plan before after
