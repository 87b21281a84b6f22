-- The enforcers for a request, by their places: there are two at most.
use Rattle.std.proofs.Common.{◌≡◌, ◌⊎◌, ℕ, zero, suc, ◌≤◌, Bool, true, false, Option, None, List, [], ◌∷◌, length, sym}
use Rattle.std.proofs.Common.{ap, inl, inr, arith}
use Rattle.std.specs.Prelude.{slice_get, Some}
use Rattle.request_props.specs.declared.request.Dist.{Dist}
use Rattle.request_props.specs.declared.request.Request.{Request}
use Rattle.plan_space.specs.declared.nodes.Motion.{Motion}
use Rattle.plan_space.specs.Enforcers.{EnforcedBy, motion_to, merges_to, motions_in, mergers_if, enforcers_by}
use Rattle.plan_space.specs.Enforcers.{enforcers_of, Among}

-- an enforcer at a place of a list is one of the list
pub among_at : (list : List EnforcedBy) (place : ℕ) (e : EnforcedBy) → slice_get list place ≡ Some e → Among e list
among_at [] place e is = cc
among_at (first ∷ others) zero e is = inl cc
among_at (first ∷ others) (suc place) e is = inr (among_at others place e is)

pub one_motion : (found : Option Motion) → length (motions_in found) ≤ 1
one_motion None = omega arith
one_motion (Some motion) = omega arith

one_merge : (merged : Bool) (order : ℕ) → length (mergers_if merged order) ≤ 1
one_merge false order = omega arith
one_merge true order = omega arith

-- there are at most two enforcers for a distribution and an order
pub few_by : (dist : Dist) (order : ℕ) → length (enforcers_by dist order) ≤ 2
few_by dist zero = omega (arith, one_motion (motion_to dist))
few_by dist (suc o) = omega (arith, one_merge (merges_to dist) (suc o))

-- of at most two each is at one of the first two places
at_either : (list : List EnforcedBy) → length list ≤ 2 → (e : EnforcedBy) → Among e list → (slice_get list 0 ≡ Some e)
    ⊎ (slice_get list 1 ≡ Some e)
at_either [] few e none = absurd none
at_either (first ∷ []) few e (inl is) = inl (ap (λ (x : EnforcedBy). Some x) (sym is))
at_either (first ∷ []) few e (inr none) = absurd none
at_either (first ∷ second ∷ []) few e (inl is) = inl (ap (λ (x : EnforcedBy). Some x) (sym is))
at_either (first ∷ second ∷ []) few e (inr (inl is)) = inr (ap (λ (x : EnforcedBy). Some x) (sym is))
at_either (first ∷ second ∷ []) few e (inr (inr none)) = absurd none
at_either (first ∷ second ∷ third ∷ others) few e among = absurd (omega arith)

-- each enforcer for a request is at one of the first two places
pub first_or_second : (wanted : Request) (e : EnforcedBy) → Among e (enforcers_of wanted)
    → (slice_get (enforcers_of wanted) 0 ≡ Some e) ⊎ (slice_get (enforcers_of wanted) 1 ≡ Some e)
first_or_second wanted e among = at_either (enforcers_of wanted) (few_by wanted.dist wanted.order) e among
