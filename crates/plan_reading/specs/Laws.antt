-- What holds of all plans and of their lines.
use Rattle.std.specs.Prelude.{ℕ, ◌≡◌, ◌≤◌, List, length, map}
use Rattle.std.specs.List.{concat}
use Rattle.query_core.specs.declared.query.Query.{Query}
use Rattle.request_props.specs.Numbered.{IsWithinLimits}
use Rattle.plan_space.specs.Cost.{cost_of}
use Rattle.plan_space.specs.Nodes.{Tree}
use Rattle.plan_space.specs.declared.nodes.NodeKind.{NodeKind}
use Rattle.plan_space.specs.declared.seen.Kid.{Kid}
use Rattle.plan_check.specs.Kids.{HasKids}
use Rattle.plan_check.specs.Nodes.{IsKindOf}
use Rattle.plan_check.specs.Outcome.{most_nodes}
use Rattle.plan_check.specs.Preorder.{plans_in}
use Rattle.plan_lines.specs.Text.{plan_section}
use Rattle.plan_reading.specs.Formed.{IsFormed}
use Rattle.plan_reading.specs.Lines.{sketch, tree_lines}
use Rattle.plan_reading.specs.Named.{named_of, HasForm}
use Rattle.plan_reading.specs.NodeOver.{node_over, HasSmallMode}
use Rattle.plan_reading.specs.Outline.{outline, forest, ArePlanTrees, IsPlanTree}
use Rattle.plan_reading.specs.declared.named.Named.{Named}

-- the text of a plan of few enough nodes is made of the plan's own lines
abbrev pub PlansAreRead : Query → Type 0
PlansAreRead q = (t : Tree) → IsPlanTree q t → length (plans_in t) ≤ most_nodes
    → IsFormed q (concat (plan_section q t)) (cost_of q t) (tree_lines q 0 t)

-- the plan's own lines stand and are named as its nodes
abbrev pub LinesAreSpelled : Query → Type 0
LinesAreSpelled q = (t : Tree) → map sketch (tree_lines q 0 t) ≡ outline 0 t

-- an outline is that of one list of plans
abbrev pub OutlinesAreOne : Query → Type 0
OutlinesAreOne q = (depth : ℕ) (a b : List Tree) → ArePlanTrees q a → ArePlanTrees q b → forest depth a ≡ forest depth b
    → a ≡ b

-- a node over the right kids is the one that its name and their groups tell
abbrev pub NodesAreMeant : Query → Type 0
NodesAreMeant q = (node : NodeKind) (kids : List Kid) → IsKindOf q node → HasKids node kids
    → node ≡ node_over (named_of node) kids

-- a node that a name and some groups tell is named so
abbrev pub NamesAreKept : Query → Type 0
NamesAreKept q = (name : Named) (kids : List Kid) → IsWithinLimits q → HasForm q name
    → named_of (node_over name kids) ≡ name

-- the mode in a name that the query has is small
abbrev pub ModesAreSmall : Query → Type 0
ModesAreSmall q = (name : Named) → IsWithinLimits q → HasForm q name → HasSmallMode name
