-- A plan as a list of nodes.
use Rattle.std.specs.Prelude.{ℕ, suc, List, [], ◌∷◌, ◌++◌, length}
use Rattle.cardinality.specs.Rows.{rows_of}
use Rattle.cost_units.specs.Cost.{local_cost}
use Rattle.query_core.specs.declared.query.Query.{Query}
use Rattle.plan_lines.specs.Text.{node_text}
use Rattle.plan_space.specs.Cost.{shape_of}
use Rattle.plan_space.specs.Gives.{kid_of, node_group}
use Rattle.plan_space.specs.Nodes.{Tree, leaf, over, two}
use Rattle.plan_space.specs.declared.nodes.NodeKind.{NodeKind}
use Rattle.plan_space.specs.declared.seen.Kid.{Kid}
use Rattle.planner.specs.Columns.{columns_of}
use Rattle.planner.specs.declared.node.PlanNode.{PlanNode}

-- a node at this depth over kids that are seen so: its text, its columns, its group's rows and its own cost
abbrev pub node_at : Query → ℕ → NodeKind → List Kid → PlanNode
node_at q depth kind kids = record {
  depth = depth;
  operator = kind;
  text = node_text q kind;
  columns = columns_of q kind;
  rows = rows_of q (node_group kind kids);
  cost = local_cost (shape_of q kind kids);
  children = length kids;
}

-- the nodes of a plan whose root stands at this depth: each before those below it, the left ones before the right ones
abbrev pub nodes_from : Query → ℕ → Tree → List PlanNode
nodes_from q depth (leaf kind) = node_at q depth kind [] ∷ []
nodes_from q depth (over kind kid) = node_at q depth kind (kid_of q kid ∷ []) ∷ nodes_from q (suc depth) kid
nodes_from q depth (two kind left right) =
    node_at q depth kind (kid_of q left ∷ kid_of q right ∷ [])
    ∷ (nodes_from q (suc depth) left ++ nodes_from q (suc depth) right)

-- the nodes of a plan, from its root
abbrev pub nodes_of : Query → Tree → List PlanNode
nodes_of q tree = nodes_from q 0 tree
