-- What holds of best answers, in whatever order nodes are tried.
use Rattle.std.specs.Prelude.{ℕ, ◌≡◌, ◌≤◌, List, [], ◌∷◌, Option, None, Some, option_map}
use Rattle.query_core.specs.Expressions.{expr_of, physical_children}
use Rattle.query_core.specs.declared.query.Query.{Query}
use Rattle.query_core.specs.declared.words.KeyParts.{KeyParts}
use Rattle.query_core.specs.declared.expressions.PhysicalExpr.{PhysicalExpr}
use Rattle.xform_rules.specs.Closure.{IsMember}
use Rattle.request_props.specs.Numbered.{IsProps}
use Rattle.request_props.specs.declared.props.Props.{Props}
use Rattle.request_props.specs.declared.request.Request.{Request}
use Rattle.request_props.specs.Fitting.{Fits}
use Rattle.plan_space.specs.Nodes.{Tree}
use Rattle.plan_space.specs.declared.nodes.NodeKind.{NodeKind}
use Rattle.plan_space.specs.declared.nodes.NodeKind.TheVariants as nodes
use Rattle.plan_space.specs.declared.lines.Line.{Line}
use Rattle.plan_space.specs.Alternatives.{IsAlternative, asked_of}
use Rattle.plan_space.specs.Enforcers.{EnforcedBy, enforcers_of, Among}
use Rattle.plan_space.specs.Cost.{most_of_all}
use Rattle.plan_space.specs.Least.{IsAnswer}
use Rattle.plan_space.specs.Choices.{groups_of, IsChoice}
use Rattle.plan_tree.specs.Costs.{IsNativeCost, IsEnforcerCost}
use Rattle.plan_tree.specs.Nodes.{IsNodeInRange}
use Rattle.plan_tree.specs.Seen.{root_node}
use Rattle.best_answers.specs.Nodes.{Nodes, no_nodes, one_node, both_of, all_nodes, IsIn}
use Rattle.best_answers.specs.Answers.{answer_of, lesser, costs_below, best_over}
use Rattle.best_answers.specs.Best.{IsLeastIn, IsBest, AreBest}
use Rattle.best_answers.specs.declared.best.Best.{Best}

-- the nodes of the smaller set are in the larger one, and so are all of that one that may serve the request in the
-- smaller
pub record Covers (q : Query) (group : KeyParts) (wanted : Request) (smaller larger : Nodes) : Type 0 where
  pub within : (node : NodeKind) → IsIn smaller node → IsIn larger node
  pub enforcers : (e : EnforcedBy) → Among e (enforcers_of wanted) → IsIn larger (nodes.Enforcer e.node)
      → IsIn smaller (nodes.Enforcer e.node)
  pub members : (e : PhysicalExpr) (mode : ℕ) (line : Line) → IsMember q (expr_of e) → e.group ≡ group
      → IsIn larger (nodes.Native e mode) → IsAlternative q e wanted mode line → IsIn smaller (nodes.Native e mode)

-- for a request and a set of nodes one answer is the best
abbrev pub BestIsOne : Query → Type 0
BestIsOne q =
    (props : Props) → IsProps q props → (group : KeyParts) (wanted : Request) (set : Nodes) (answer other : Option Best)
    → IsBest q group wanted set answer → IsBest q group wanted set other → answer ≡ other

-- the best of no nodes is none
abbrev pub NoneIsBest : Query → Type 0
NoneIsBest q = (group : KeyParts) (wanted : Request) → IsBest q group wanted no_nodes None

-- the lesser of the best of two sets is the best of both
abbrev pub LesserIsBest : Query → Type 0
LesserIsBest q =
    (props : Props) → IsProps q props → (group : KeyParts) (wanted : Request) (some others : Nodes)
    (first second : Option Best)
    → Fits q group wanted → IsBest q group wanted some first → IsBest q group wanted others second
    → IsBest q group wanted (both_of some others) (lesser first second)

-- what is the best of a set is the best of each set that it covers
abbrev pub CoveredIsBest : Query → Type 0
CoveredIsBest q =
    (group : KeyParts) (wanted : Request) (smaller larger : Nodes) (answer : Option Best)
    → Covers q group wanted smaller larger
    → IsBest q group wanted smaller answer → IsBest q group wanted larger answer

-- an enforcer for the request with the best of what it asks is the best of this one node
abbrev pub EnforcerIsBest : Query → Type 0
EnforcerIsBest q =
    (group : KeyParts) (wanted : Request) (e : EnforcedBy) (local : ℕ) (answer : Option Best) → Fits q group wanted
    → Among e (enforcers_of wanted) → IsEnforcerCost q e.node group e.below local
    → IsBest q group e.below all_nodes answer
    → IsBest q group wanted (one_node (nodes.Enforcer e.node))
    (best_over local (nodes.Enforcer e.node) (costs_below (answer ∷ [])))

-- so is a member in a mode with the best of what its line asks of the children
abbrev pub ModeIsBest : Query → Type 0
ModeIsBest q =
    (e : PhysicalExpr) (mode : ℕ) (line : Line) (wanted : Request) (local : ℕ) (answers : List (Option Best))
    → IsMember q (expr_of e) → Fits q e.group wanted → IsAlternative q e wanted mode line
    → IsNativeCost q e mode wanted local
    → AreBest q (groups_of (physical_children e.operator)) (asked_of line wanted) answers
    → IsBest q e.group wanted (one_node (nodes.Native e mode))
    (best_over local (nodes.Native e mode) (costs_below answers))

-- the best of all nodes is the answer of the least plan of all, which is a choice, or says that there is none
abbrev pub BestIsLeast : Query → Type 0
BestIsLeast q =
    (group : KeyParts) (wanted : Request) (answer : Option Best) → Fits q group wanted
    → IsBest q group wanted all_nodes answer
    → (plan : Option Tree) × IsLeastIn q group wanted all_nodes plan × IsAnswer (IsMember q) q group wanted plan
    × (answer ≡ option_map (answer_of q) plan)

-- no best answer costs more than any least plan may
abbrev pub BestsFit : Query → Type 0
BestsFit q =
    (group : KeyParts) (wanted : Request) (set : Nodes) (best : Best) → Fits q group wanted
    → IsBest q group wanted set (Some best) → best.cost ≤ most_of_all

-- the node at the root of a choice has a number of its own
abbrev pub RootsHaveNumbers : Query → Type 0
RootsHaveNumbers q =
    (props : Props) → IsProps q props → (group : KeyParts) (wanted : Request) (plan : Tree) → Fits q group wanted
    → IsChoice (IsMember q) q group wanted plan → IsNodeInRange (root_node plan)
