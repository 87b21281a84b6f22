-- Lists of members in their modes, whose numbers rise, and one more member at the end.
use Rattle.std.proofs.Common.{ℕ, ◌<◌, ◌≤◌, ◌+◌, refl, inl, inr, arith}
use Rattle.std.specs.Prelude.{List, [], ◌∷◌, ◌++◌, ⊤}
use Rattle.plan_search.specs.declared.native.NativeNode.{NativeNode}
use Rattle.plan_search.specs.Natives.{RisesFrom, mode_number, IsIn}

-- all numbers of the list are below the bound
abbrev pub AreBelow : ℕ → List NativeNode → Type 0
AreBelow bound [] = ⊤
AreBelow bound (p ∷ ps) = (mode_number p < bound) × AreBelow bound ps

pub below_more : (bound more : ℕ) (list : List NativeNode) → bound ≤ more → AreBelow bound list → AreBelow more list
below_more bound more [] less below = tt
below_more bound more (p ∷ ps) less below = (omega (arith, less, below.0), below_more bound more ps less below.1)

-- a member with a greater number comes last
pub rises_push : (from : ℕ) (list : List NativeNode) (p : NativeNode) → from ≤ mode_number p → RisesFrom from list
    → AreBelow (mode_number p) list → RisesFrom from (list ++ p ∷ [])
rises_push from [] p least rises below = (least, tt)
rises_push from (first ∷ others) p least rises below =
    (rises.0, rises_push (mode_number first + 1) others p (omega (arith, below.0)) rises.1 below.1)

pub below_push : (bound : ℕ) (list : List NativeNode) (p : NativeNode) → mode_number p < bound → AreBelow bound list
    → AreBelow bound (list ++ p ∷ [])
below_push bound [] p less below = (less, tt)
below_push bound (first ∷ others) p less below = (below.0, below_push bound others p less below.1)

-- what is in one of two lists is in both together
pub in_front : (p : NativeNode) (list others : List NativeNode) → IsIn p list → IsIn p (list ++ others)
in_front p [] others is = absurd is
in_front p (first ∷ rest) others (inl is) = inl is
in_front p (first ∷ rest) others (inr later) = inr (in_front p rest others later)

pub in_behind : (p : NativeNode) (list others : List NativeNode) → IsIn p others → IsIn p (list ++ others)
in_behind p [] others is = is
in_behind p (first ∷ rest) others is = inr (in_behind p rest others is)

pub in_end : (list : List NativeNode) (p : NativeNode) → IsIn p (list ++ p ∷ [])
in_end [] p = inl refl
in_end (first ∷ others) p = inr (in_end others p)
