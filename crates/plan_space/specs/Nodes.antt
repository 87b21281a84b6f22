-- The numbers of the nodes of a plan, and plan trees.
use Rattle.std.specs.Prelude.{ℕ, ◌+◌, ◌*◌, ◌^◌, List, [], ◌∷◌, ◌++◌}
use Rattle.query_core.specs.Expressions.{expr_of, word_of}
use Rattle.plan_space.specs.declared.nodes.Enforcer.{Enforcer}
use Rattle.plan_space.specs.declared.nodes.Enforcer.TheVariants as enforcers
use Rattle.plan_space.specs.declared.nodes.NodeKind.{NodeKind}
use Rattle.plan_space.specs.declared.nodes.NodeKind.TheVariants as nodes

-- the number of an enforcer: sorts and merges have that of their order, and a redistribution that of its list
abbrev pub enforcer_number : Enforcer → ℕ
enforcer_number enforcers.Gather = 1
enforcer_number enforcers.Broadcast = 2
enforcer_number (enforcers.Sort order) = 64 + order
enforcer_number (enforcers.GatherMerge order) = 128 + order
enforcer_number (enforcers.Redistribute list) = 192 + list

-- so many modes the number of a node can name
abbrev pub node_modes : ℕ
node_modes = 2 ^ 8

-- the number of a node, by which plans of one cost are told apart
abbrev pub node_number : NodeKind → ℕ
node_number (nodes.Native e mode) = 2 ^ 56 + word_of (expr_of e) * node_modes + mode
node_number (nodes.Enforcer e) = enforcer_number e

-- a plan: a node over none, one or two plans
pub data Tree : Type 0 where
  leaf : NodeKind → Tree
  over : NodeKind → Tree → Tree
  two : NodeKind → Tree → Tree → Tree

-- the numbers of the nodes, each before those below it
abbrev pub code_of : Tree → List ℕ
code_of (leaf node) = node_number node ∷ []
code_of (over node kid) = node_number node ∷ code_of kid
code_of (two node left right) = node_number node ∷ (code_of left ++ code_of right)
