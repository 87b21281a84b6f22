-- The lines of nodes.
use Rattle.std.specs.Prelude.{ℕ, suc, List, [], ◌∷◌, ◌++◌}
use Rattle.cardinality.specs.Rows.{rows_of}
use Rattle.cost_units.specs.Cost.{local_cost}
use Rattle.query_core.specs.declared.query.Query.{Query}
use Rattle.plan_space.specs.declared.nodes.NodeKind.{NodeKind}
use Rattle.plan_space.specs.declared.seen.Kid.{Kid}
use Rattle.plan_space.specs.Nodes.{Tree, leaf, over, two}
use Rattle.plan_space.specs.Gives.{node_group, kid_of}
use Rattle.plan_space.specs.Cost.{shape_of}
use Rattle.plan_lines.specs.Text.{indent, numbered}
use Rattle.plan_reading.specs.Named.{named_of, named_text}
use Rattle.plan_reading.specs.declared.named.Named.{Named}
use Rattle.plan_reading.specs.declared.line.NodeLine.{NodeLine}

-- the bytes of a line, with its newline
abbrev pub line_text : Query → NodeLine → List ℕ
line_text q line = numbered (indent line.level) (named_text q line.node) line.rows line.cost

-- how deep a line stands, and how it names its node
abbrev pub sketch : NodeLine → ℕ × Named
sketch line = (line.level, line.node)

-- the line of a node
abbrev pub line_of_node : Query → ℕ → NodeKind → List Kid → NodeLine
line_of_node q depth node kids = record {
  level = depth;
  node = named_of node;
  rows = rows_of q (node_group node kids);
  cost = local_cost (shape_of q node kids);
}

-- the lines of a plan, each node before those below it
abbrev pub tree_lines : Query → ℕ → Tree → List NodeLine
tree_lines q depth (leaf node) = line_of_node q depth node [] ∷ []
tree_lines q depth (over node kid) = line_of_node q depth node (kid_of q kid ∷ []) ∷ tree_lines q (suc depth) kid
tree_lines q depth (two node left right) =
    line_of_node q depth node (kid_of q left ∷ kid_of q right ∷ [])
    ∷ (tree_lines q (suc depth) left ++ tree_lines q (suc depth) right)
