-- What a plan's own lines say of its nodes.
use Rattle.std.specs.Prelude.{List, [], ◌∷◌, ◌++◌}
use Rattle.cardinality.specs.Rows.{rows_of}
use Rattle.cost_units.specs.Cost.{local_cost}
use Rattle.query_core.specs.declared.query.Query.{Query}
use Rattle.plan_space.specs.Cost.{shape_of}
use Rattle.plan_space.specs.Gives.{node_group, kid_of}
use Rattle.plan_space.specs.Nodes.{Tree, leaf, over, two}
use Rattle.plan_space.specs.declared.nodes.NodeKind.{NodeKind}
use Rattle.plan_space.specs.declared.seen.Kid.{Kid}
use Rattle.plan_tree.specs.declared.node.Node.{Node}
use Rattle.plan_tree.specs.declared.plan.Plan.{Plan}
use Rattle.plan_tree.specs.declared.seen.Kids.{Kids}
use Rattle.plan_check.specs.Nodes.{IsKindOf}
use Rattle.plan_lines.specs.Gathered.{AddsNode, AddsPlan}
use Rattle.text_check.specs.declared.own.OwnLine.{OwnLine}

-- a node over its kids, the rows of its group and its own cost
abbrev pub own_line : Query → NodeKind → List Kid → OwnLine
own_line q node kids = record {
  node = node;
  rows = rows_of q (node_group node kids);
  cost = local_cost (shape_of q node kids);
}

-- those of all nodes of a plan, each before those below it
abbrev pub own_lines : Query → Tree → List OwnLine
own_lines q (leaf node) = own_line q node [] ∷ []
own_lines q (over node kid) = own_line q node (kid_of q kid ∷ []) ∷ own_lines q kid
own_lines q (two node left right) =
    own_line q node (kid_of q left ∷ kid_of q right ∷ []) ∷ (own_lines q left ++ own_lines q right)

-- the line is that of a node of the query
abbrev pub IsLineOf : Query → OwnLine → Type 0
IsLineOf q line = IsKindOf q line.node

-- ---- how they are gathered, the last one first

-- the line of the node was added
abbrev pub AddsLine : Query → Node → Kids → List OwnLine → List OwnLine → Type 0
AddsLine q node below before after = AddsNode q (λ kind kids. own_line q kind kids ∷ []) node below before after

-- the lines of the plan were added
abbrev pub AddsLines : Query → Plan → List OwnLine → List OwnLine → Type 0
AddsLines q plan before after = AddsPlan q (own_lines q) plan before after
