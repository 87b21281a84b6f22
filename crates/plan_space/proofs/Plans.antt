-- The order of plans: what is at most another plan, in cost and then in code.
use Rattle.std.proofs.Common.{◌≤◌, [], ◌∷◌, inl, inr, refl, arith}
use Rattle.std.proofs.Math.Nat.{eq-or-lt_of_le}
use Rattle.query_core.specs.declared.query.Query.{Query}
use Rattle.plan_space.specs.Nodes.{node_number, Tree, over, two, code_of}
use Rattle.plan_space.specs.declared.nodes.NodeKind.{NodeKind}
use Rattle.plan_space.specs.Gives.{kid_of}
use Rattle.cost_units.specs.declared.shape.CostShape.{CostShape}
use Rattle.cost_units.specs.Cost.{local_cost}
use Rattle.plan_space.specs.Cost.{shape_of, cost_of}
use Rattle.plan_space.specs.Least.{IsLess}
use Rattle.plan_space.specs.Order.{IsAtMost}
use Rattle.plan_space.proofs.Codes.{AtMost-refl, AtMost-trans, AtMost-append, AtMost-not_less}

pub IsAtMost-refl : (q : Query) (a : Tree) → IsAtMost q a a
IsAtMost-refl q a = inr (refl, AtMost-refl (code_of a))

pub IsAtMost-trans : (q : Query) (a b c : Tree) → IsAtMost q a b → IsAtMost q b c → IsAtMost q a c
IsAtMost-trans q a b c (inl x) (inl y) = inl (omega arith)
IsAtMost-trans q a b c (inl x) (inr y) = inl (omega arith)
IsAtMost-trans q a b c (inr x) (inl y) = inl (omega arith)
IsAtMost-trans q a b c (inr x) (inr y) = inr (omega arith, AtMost-trans (code_of a) (code_of b) (code_of c) x.1 y.1)

-- nothing is less than a plan that is at most it
pub IsAtMost-not_less : (q : Query) (a b : Tree) → IsAtMost q a b → IsLess q b a → ⊥
IsAtMost-not_less q a b (inl x) (inl y) = omega arith
IsAtMost-not_less q a b (inl x) (inr y) = omega arith
IsAtMost-not_less q a b (inr x) (inl y) = omega arith
IsAtMost-not_less q a b (inr x) (inr y) = AtMost-not_less (code_of a) (code_of b) x.1 y.1

-- and it costs no more
pub at_most_costs : (q : Query) (a b : Tree) → IsAtMost q a b → cost_of q a ≤ cost_of q b
at_most_costs q a b (inl less) = omega arith
at_most_costs q a b (inr same) = omega arith

-- each node costs something
costs_some : (shape : CostShape) → 1 ≤ local_cost shape
unfolding local_cost
costs_some shape = omega arith

-- a plan is less than the same plan under one more node
pub kid_at_most : (q : Query) (node : NodeKind) (a kid : Tree) → IsAtMost q a kid → IsAtMost q a (over node kid)
kid_at_most q node a kid (inl x) = let some = costs_some (shape_of q node (kid_of q kid ∷ [])) in inl (omega arith)
kid_at_most q node a kid (inr x) = let some = costs_some (shape_of q node (kid_of q kid ∷ [])) in inl (omega arith)

-- a node of no greater number and no greater cost over a plan that is at most the other
pub over_at_most : (q : Query) (node other : NodeKind) (a b : Tree)
    → node_number node ≤ node_number other
    → local_cost (shape_of q node (kid_of q a ∷ [])) ≤ local_cost (shape_of q other (kid_of q b ∷ []))
    → IsAtMost q a b
    → IsAtMost q (over node a) (over other b)
over_at_most q node other a b number cost (inl x) = inl (omega arith)
over_at_most q node other a b number cost (inr x) = elim (eq-or-lt_of_le cost) [
  | inl same ↦ inr (omega arith, elim (eq-or-lt_of_le number) [ inl equal ↦ inr (equal, x.1) | inr less ↦ inl less ])
  | inr less ↦ inl (omega arith)
]

-- one node over two plans that are each at most the other
pub two_at_most : (q : Query) (node : NodeKind) (a b c d : Tree)
    → local_cost (shape_of q node (kid_of q a ∷ kid_of q c ∷ [])) ≤ local_cost
    (shape_of q node (kid_of q b ∷ kid_of q d ∷ []))
    → IsAtMost q a b
    → IsAtMost q c d
    → IsAtMost q (two node a c) (two node b d)
two_at_most q node a b c d cost (inl x) (inl y) = inl (omega arith)
two_at_most q node a b c d cost (inl x) (inr y) = inl (omega arith)
two_at_most q node a b c d cost (inr x) (inl y) = inl (omega arith)
two_at_most q node a b c d cost (inr x) (inr y) = elim (eq-or-lt_of_le cost) [
  | inl same ↦ inr (omega arith, inr (refl, AtMost-append (code_of a) (code_of b) (code_of c) (code_of d) x.1 y.1))
  | inr less ↦ inl (omega arith)
]
