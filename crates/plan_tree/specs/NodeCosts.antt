-- Which nodes are there for a request, by their numbers, and what the program says of their costs.
use Rattle.std.specs.Prelude.{ℕ, ◌≡◌}
use Rattle.query_core.specs.Expressions.{expr_of, IsCandidate}
use Rattle.query_core.specs.Keys.{NamesGroup}
use Rattle.query_core.specs.declared.query.Query.{Query}
use Rattle.query_core.specs.declared.words.Key.{Key}
use Rattle.query_core.specs.declared.words.KeyParts.{KeyParts}
use Rattle.request_props.specs.declared.request.Request.{Request}
use Rattle.plan_space.specs.declared.nodes.NodeKind.{NodeKind}
use Rattle.plan_space.specs.declared.nodes.NodeKind.TheVariants as nodes
use Rattle.plan_space.specs.Enforcers.{EnforcedBy, enforcers_of, Among}
use Rattle.plan_tree.specs.Alternatives.{HasAlternative}
use Rattle.plan_tree.specs.Costs.{IsNativeCost, IsCostAmong}
use Rattle.plan_tree.specs.Nodes.{IsNode}
use Rattle.plan_tree.specs.declared.node.Node.{Node}

-- the node is there for the request: a candidate in a mode that is, or one of the enforcers
abbrev pub IsNodeFor : Query → Request → NodeKind → Type 0
IsNodeFor q wanted (nodes.Native e mode) = IsCandidate q (expr_of e) × HasAlternative q e wanted mode
IsNodeFor q wanted (nodes.Enforcer enforcer) = (e : EnforcedBy) × Among e (enforcers_of wanted) × (e.node ≡ enforcer)

-- the number is that of such a node
abbrev pub IsThere : Query → Request → Node → Type 0
IsThere q wanted node = (kind : NodeKind) × IsNode node kind × IsNodeFor q wanted kind

-- the cost of the node for the request, in a plan of the group, over any plans that give what is asked of them
abbrev pub IsCostFor : Query → KeyParts → Request → NodeKind → ℕ → Type 0
IsCostFor q group wanted (nodes.Native e mode) price = IsNativeCost q e mode wanted price
IsCostFor q group wanted (nodes.Enforcer enforcer) price = IsCostAmong q enforcer group wanted price

-- that of the node of this number, in a plan of the group of this key
abbrev pub IsCostOf : Query → Key → Request → Node → ℕ → Type 0
IsCostOf q key wanted node price =
    (group : KeyParts) (kind : NodeKind) → NamesGroup q key group → IsNode node kind → IsCostFor q group wanted kind price
