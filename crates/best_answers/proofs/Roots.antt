-- The node at the root of a plan.
use Rattle.std.proofs.Common.{◌≡◌, ℕ, refl, subst, sym}
use Rattle.std.specs.Prelude.{List, [], ◌∷◌, ◌++◌}
use Rattle.plan_space.specs.Nodes.{node_number, Tree, leaf, over, two, code_of}
use Rattle.plan_space.specs.declared.nodes.NodeKind.{NodeKind}
use Rattle.plan_space.specs.Choices.{IsNodeOver}
use Rattle.plan_tree.specs.Seen.{root_node}

-- a plan's code begins with its root's number
pub code_begins : (plan : Tree) → (others : List ℕ) × (code_of plan ≡ node_number (root_node plan) ∷ others)
code_begins (leaf node) = ([], refl)
code_begins (over node kid) = (code_of kid, refl)
code_begins (two node left right) = (code_of left ++ code_of right, refl)

-- a node over plans is the root
pub root_over : (node : NodeKind) (kids : List Tree) (plan : Tree) → IsNodeOver node kids plan → root_node plan ≡ node
root_over node [] plan is = subst (λ t. root_node t ≡ node) (sym is) refl
root_over node (kid ∷ []) plan is = subst (λ t. root_node t ≡ node) (sym is) refl
root_over node (left ∷ right ∷ []) plan is = subst (λ t. root_node t ≡ node) (sym is) refl
root_over node (left ∷ right ∷ other ∷ others) plan is = absurd is

-- and over the same plans it is one plan
pub over_one : (node : NodeKind) (kids : List Tree) (plan other : Tree) → IsNodeOver node kids plan
    → IsNodeOver node kids other → other ≡ plan
over_one node [] plan other x y = cc
over_one node (kid ∷ []) plan other x y = cc
over_one node (left ∷ right ∷ []) plan other x y = cc
over_one node (left ∷ right ∷ more ∷ others) plan other x y = absurd x
