-- The lines of a plan's text as the program makes them, byte by byte.
use Rattle.std.specs.Prelude.{ℕ, ◌≡◌, List}
use Rattle.std.specs.List.{concat}
use Rattle.query_core.specs.declared.query.Query.{Query}
use Rattle.plan_space.specs.declared.nodes.NodeKind.{NodeKind}
use Rattle.plan_space.specs.Nodes.{Tree}
use Rattle.plan_tree.specs.Nodes.{IsNode}
use Rattle.plan_tree.specs.Spells.{Spells}
use Rattle.plan_tree.specs.Seen.{kids_seen, HasGroup, HaveGroups}
use Rattle.plan_tree.specs.declared.node.Node.{Node}
use Rattle.plan_tree.specs.declared.plan.Plan.{Plan}
use Rattle.plan_tree.specs.declared.seen.Kids.{Kids}
use Rattle.plan_lines.specs.Gathered.{AddsNode, AddsPlan}
use Rattle.plan_lines.specs.Groups.{HasGroups}
use Rattle.plan_lines.specs.Text.{indent, node_line, plan_lines}

-- the bytes are the node's line behind the spaces, over plans that are seen so, where the groups are the query's
abbrev pub IsKindLine : Query → List ℕ → NodeKind → Kids → List ℕ → Type 0
IsKindLine q spaces kind below line =
    (depth : ℕ) → spaces ≡ indent depth → HasGroup q kind → HaveGroups q below
    → line ≡ node_line q depth kind (kids_seen below)

-- the same of whichever node the program's node is
abbrev pub IsNodeLine : Query → List ℕ → Node → Kids → List ℕ → Type 0
IsNodeLine q spaces node below line = (kind : NodeKind) → IsNode node kind → IsKindLine q spaces kind below line

-- the bytes are the lines of whichever tree the plan is, where the groups are the query's
abbrev pub IsLinesText : Query → Plan → List ℕ → Type 0
IsLinesText q plan text = (tree : Tree) → Spells plan tree → HasGroups q tree → text ≡ concat (plan_lines q 0 tree)

-- ---- how they are gathered

-- the node's line was added to the text behind the spaces
abbrev pub AddsLine : Query → List ℕ → Node → Kids → List ℕ → List ℕ → Type 0
AddsLine q spaces node below before after =
    (depth : ℕ) → spaces ≡ indent depth → AddsNode q (node_line q depth) node below before after

-- the plan's lines were added to the text behind the spaces
abbrev pub AddsLines : Query → List ℕ → Plan → List ℕ → List ℕ → Type 0
AddsLines q spaces plan before after =
    (depth : ℕ) → spaces ≡ indent depth → AddsPlan q (λ tree. concat (plan_lines q depth tree)) plan before after
