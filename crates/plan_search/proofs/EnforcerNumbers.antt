-- The numbers of the enforcers for a request, one after the other.
use Rattle.std.proofs.Common.{◌≡◌, ℕ, zero, suc, ◌<◌, ◌≤◌, ◌+◌, Bool, true, false, Option, refl, subst, sym, ap, arith}
use Rattle.std.proofs.lemmas.Option.{slice_get_past}
use Rattle.std.specs.Option.{option_map_or}
use Rattle.std.specs.Prelude.{◌^◌, List, [], ◌∷◌, slice_get, None, Some}
use Rattle.request_props.specs.declared.request.Dist.{Dist}
use Rattle.request_props.specs.declared.request.Request.{Request}
use Rattle.plan_space.specs.declared.nodes.Enforcer.TheVariants.{Sort}
use Rattle.plan_space.specs.declared.nodes.Motion.{Motion}
use Rattle.plan_space.specs.declared.nodes.NodeKind.TheVariants as nodes
use Rattle.plan_space.specs.Nodes.{node_number}
use Rattle.plan_space.specs.Lines.{request}
use Rattle.plan_space.specs.Enforcers.{EnforcedBy, enforced, motion_to, merges_to, motions_in, mergers_if}
use Rattle.plan_space.specs.Enforcers.{enforcers_by, enforcers_of}
use Rattle.plan_space.proofs.Enforcers.{few_by}
use Rattle.plan_search.specs.BestSoFar.{number_at_place}

abbrev number_at : List EnforcedBy → ℕ → ℕ
number_at list n = option_map_or (λ e. node_number (nodes.Enforcer e.node)) (slice_get list n) (2 ^ 56)

-- after a motion nothing comes
next_motion : (found : Option Motion) (n : ℕ) (e : EnforcedBy) → slice_get (motions_in found) n ≡ Some e
    → node_number (nodes.Enforcer e.node) + 1 ≤ 2 ^ 56
    → node_number (nodes.Enforcer e.node) + 1 ≤ number_at (motions_in found) (suc n)
next_motion None n e is small = cc
next_motion (Some motion) zero e is small = small
next_motion (Some motion) (suc n) e is small = cc

-- after a sort the merge does, if there is one
next_merge : (merged : Bool) (below : Request) (o n : ℕ) (e : EnforcedBy) → suc o ≤ 60
    → slice_get (enforced (Sort (suc o)) below ∷ mergers_if merged (suc o)) n ≡ Some e
    → node_number (nodes.Enforcer e.node) + 1 ≤ 2 ^ 56
    → node_number (nodes.Enforcer e.node) + 1
    ≤ number_at (enforced (Sort (suc o)) below ∷ mergers_if merged (suc o)) (suc n)
next_merge false below o zero e few is small = small
next_merge false below o (suc n) e few is small = cc
next_merge true below o zero e few is small = let same : enforced (Sort (suc o)) below ≡ e = cc in
    subst (λ x. node_number (nodes.Enforcer x.node) + 1 ≤ 128 + suc o) same (omega arith)
next_merge true below o (suc zero) e few is small = small
next_merge true below o (suc (suc n)) e few is small = cc

-- the next enforcer has a greater number
next_at : (dist : Dist) (order n : ℕ) (e : EnforcedBy) → order ≤ 60 → slice_get (enforcers_by dist order) n ≡ Some e
    → node_number (nodes.Enforcer e.node) + 1 ≤ 2 ^ 56
    → node_number (nodes.Enforcer e.node) + 1 ≤ number_at (enforcers_by dist order) (suc n)
next_at dist zero n e few is small = next_motion (motion_to dist) n e is small
next_at dist (suc o) n e few is small = next_merge (merges_to dist) (request dist 0) o n e few is small

none_next : (list : List EnforcedBy) (n : ℕ) → slice_get list n ≡ None → slice_get list (suc n) ≡ None
none_next [] n is = refl
none_next (first ∷ others) zero is = cc
none_next (first ∷ others) (suc n) is = none_next others n is

module _ (wanted : Request) (n : ℕ) where
  -- where there is no n-th enforcer nothing comes after
  pub last_number : slice_get (enforcers_of wanted) n ≡ None → number_at_place wanted n ≤ number_at_place wanted (n + 1)
  last_number is =
      let next : suc n ≡ n + 1 = omega arith in
      let none = none_next (enforcers_of wanted) n is in
      subst (λ m. number_at_place wanted n ≤ number_at_place wanted m) next
      (subst (λ x. number_at_place wanted n ≤ option_map_or (λ e. node_number (nodes.Enforcer e.node)) x (2 ^ 56))
      (sym none)
      (subst (λ x. option_map_or (λ e. node_number (nodes.Enforcer e.node)) x (2 ^ 56) ≤ 2 ^ 56) (sym is)
      (omega arith)))

  pub next_number_at : (e : EnforcedBy) → wanted.order ≤ 60 → slice_get (enforcers_of wanted) n ≡ Some e
      → node_number (nodes.Enforcer e.node) < 2 ^ 56
      → (number_at_place wanted n ≡ node_number (nodes.Enforcer e.node))
      × (node_number (nodes.Enforcer e.node) + 1 ≤ number_at_place wanted (n + 1))
  next_number_at e few is small =
      let next : suc n ≡ n + 1 = omega arith in (
        ap (λ x. option_map_or (λ e. node_number (nodes.Enforcer e.node)) x (2 ^ 56)) is,
        subst (λ m. node_number (nodes.Enforcer e.node) + 1 ≤ number_at_place wanted m) next
            (next_at wanted.dist wanted.order n e few is (omega (arith, small))),
      )

-- there are no more than two enforcers
pub two_numbers : (wanted : Request) → number_at_place wanted 2 ≤ 2 ^ 56
two_numbers wanted =
    let past = slice_get_past (enforcers_of wanted) 2 (few_by wanted.dist wanted.order) in
    subst (λ x. option_map_or (λ e. node_number (nodes.Enforcer e.node)) x (2 ^ 56) ≤ 2 ^ 56) (sym past) (omega arith)
