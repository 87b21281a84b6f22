-- Which of the enforcers for a request fit a group.
use Rattle.std.proofs.Common.{◌≡◌, ℕ, ◌≤◌, zero, suc, true, false, List, [], ◌∷◌, length, Some, None, inl, inr}
use Rattle.std.proofs.Common.{refl, sym, subst, arith}
use Rattle.query_core.specs.declared.query.Query.{Query}
use Rattle.query_core.specs.declared.words.KeyParts.{KeyParts}
use Rattle.request_props.specs.Dists.{list_given}
use Rattle.request_props.specs.Fitting.{ListFits, OrderFits, Fits}
use Rattle.request_props.specs.Numbered.{lists_of}
use Rattle.request_props.specs.declared.request.Dist.{Dist}
use Rattle.request_props.specs.declared.request.Dist.TheVariants.{Spread}
use Rattle.request_props.specs.declared.request.Request.{Request}
use Rattle.plan_space.specs.declared.nodes.Enforcer.TheVariants.{Sort, GatherMerge}
use Rattle.plan_space.specs.declared.nodes.Motion.{Motion}
use Rattle.plan_space.specs.declared.nodes.Motion.TheVariants.{Gather, Broadcast, Redistribute}
use Rattle.plan_space.specs.declared.nodes.NodeKind.TheVariants as nodes
use Rattle.plan_space.specs.Lines.{request}
use Rattle.plan_space.specs.Enforcers.{EnforcedBy, enforced, motion_to, moved_by, moving, merges_to, motions_in}
use Rattle.plan_space.specs.Enforcers.{motions_of, enforcers_by, enforcers_of, Among}
use Rattle.plan_space.proofs.MotionLaws.{motion_brings, enforcer_for}
use Rattle.plan_tree.specs.Nodes.{EnforcerInRange, IsNode}
use Rattle.plan_tree.specs.declared.enforcers.Enforced.{Enforced}
use Rattle.plan_tree.specs.Enforcers.{LiesIn, EnforcersLie, EnforcersAreInRange, AreFitting, AreBoth}

-- there is one enforcer, and it fits
pub one_fits : (q : Query) (group : KeyParts) (e : EnforcedBy) (found : Enforced) → LiesIn q group e.node
    → IsNode found.node (nodes.Enforcer e.node) → found.below ≡ e.below → AreBoth q group (e ∷ []) (Some found) None
one_fits q group e found fits number below = record {
  kept = e ∷ [];
  are_kept = inl (fits, ([], refl, refl));
  few = omega arith;
  is_first = (number, below);
  is_second = tt;
}

-- there are two, and both fit
pub two_fit : (q : Query) (group : KeyParts) (e f : EnforcedBy) (found other : Enforced) → LiesIn q group e.node
    → LiesIn q group f.node
    → IsNode found.node (nodes.Enforcer e.node) → found.below ≡ e.below → IsNode other.node (nodes.Enforcer f.node)
    → other.below ≡ f.below
    → AreBoth q group (e ∷ f ∷ []) (Some found) (Some other)
two_fit q group e f found other fits other_fits number below other_number other_below = record {
  kept = e ∷ f ∷ [];
  are_kept = inl (fits, (f ∷ [], inl (other_fits, ([], refl, refl)), refl));
  few = omega arith;
  is_first = (number, below);
  is_second = (other_number, other_below);
}

-- only the sort is there
pub sort_fits : (q : Query) (group : KeyParts) (dist : Dist) (order : ℕ) (found : Enforced) → (order ≡ 0 → ⊥)
    → OrderFits q group order
    → merges_to dist ≡ false → IsNode found.node (nodes.Enforcer (Sort order)) → found.below ≡ request dist 0
    → AreBoth q group (enforcers_by dist order) (Some found) None
sort_fits q group dist zero found some fits none number below = absurd (some refl)
sort_fits q group dist (suc o) found some fits none number below =
    rw none (one_fits q group (enforced (Sort (suc o)) (request dist 0)) found fits number below)

-- the sort is there, and the merge
pub sort_and_merge_fit : (q : Query) (group : KeyParts) (dist : Dist) (order : ℕ) (found other : Enforced)
    → (order ≡ 0 → ⊥) → OrderFits q group order → merges_to dist ≡ true
    → IsNode found.node (nodes.Enforcer (Sort order)) → found.below ≡ request dist 0
    → IsNode other.node (nodes.Enforcer (GatherMerge order)) → other.below ≡ request Spread order
    → AreBoth q group (enforcers_by dist order) (Some found) (Some other)
sort_and_merge_fit q group dist zero found other some fits merges number below other_number other_below =
    absurd (some refl)
sort_and_merge_fit q group dist (suc o) found other some fits merges number below other_number other_below =
    rw merges (two_fit q group (enforced (Sort (suc o)) (request dist 0))
    (enforced (GatherMerge (suc o)) (request Spread (suc o))) found other fits fits number below other_number
    other_below)

-- what the motion moves by lies in the group
pub motion_fits : (q : Query) (group : KeyParts) (dist : Dist) (motion : Motion) (found : Enforced)
    → motion_to dist ≡ Some motion → LiesIn q group (moving motion)
    → IsNode found.node (nodes.Enforcer (moving motion)) → found.below ≡ request Spread 0
    → AreBoth q group (motions_of dist) (Some found) None
motion_fits q group dist motion found moves lies number below =
    subst (λ there. AreBoth q group (motions_in there) (Some found) None) (sym moves)
    (one_fits q group (enforced (moving motion) (request Spread 0)) found lies number below)

-- ---- where the request fits the group, all of its enforcers do

kept_all : (q : Query) (group : KeyParts) (all kept : List EnforcedBy)
    → ((e : EnforcedBy) → Among e all → LiesIn q group e.node) → AreFitting q group all kept → kept ≡ all
kept_all q group [] kept lie is = is
kept_all q group (e ∷ others) kept lie (inl (fits, (rest, are, is))) = let same =
    kept_all q group others rest (λ f among. lie f (inr among)) are in cc
kept_all q group (e ∷ others) kept lie (inr (never, are)) = absurd (never (lie e (inl refl)))

-- what a motion moves by lies where its list does
motion_lies : (q : Query) (group : KeyParts) (motion : Motion) → ListFits q group (list_given (moved_by motion))
    → LiesIn q group (moving motion)
motion_lies q group Gather fits = tt
motion_lies q group Broadcast fits = tt
motion_lies q group (Redistribute list) fits = fits

pub enforcer_lies : (q : Query) → EnforcersLie q
enforcer_lies q group wanted e fits among = elim (enforcer_for wanted e among) [
  | inl (motion, is) ↦ subst (λ (x : EnforcedBy). LiesIn q group x.node) (sym is.same) (motion_lies q group motion
      (subst (ListFits q group) (sym (motion_brings wanted.dist motion is.moves).by_list) fits.dist))
  | inr (inl is) ↦ subst (λ (x : EnforcedBy). LiesIn q group x.node) (sym is.same)
      (record { numbered = fits.numbered; lies_in = fits.order })
  | inr (inr is) ↦ subst (λ (x : EnforcedBy). LiesIn q group x.node) (sym is.same)
      (record { numbered = fits.numbered; lies_in = fits.order })
]

-- so these are all that are kept
pub fitting_kept : (q : Query) (group : KeyParts) (wanted : Request) (kept : List EnforcedBy) → Fits q group wanted
    → AreFitting q group (enforcers_of wanted) kept → kept ≡ enforcers_of wanted
fitting_kept q group wanted kept fits are =
    kept_all q group (enforcers_of wanted) kept (λ e among. enforcer_lies q group wanted e fits among) are

-- ---- numbers name them

pub motion_in_range : (q : Query) (group : KeyParts) (motion : Motion) → length (lists_of q) ≤ 60
    → LiesIn q group (moving motion) → EnforcerInRange (moving motion)
motion_in_range q group Gather few lies = tt
motion_in_range q group Broadcast few lies = tt
motion_in_range q group (Redistribute list) few lies = omega (arith, few, lies.numbered)

pub enforcer_in_range : (q : Query) → EnforcersAreInRange q
enforcer_in_range q few_lists few_orders group wanted e fits among = elim (enforcer_for wanted e among) [
  | inl (motion, is) ↦ subst (λ (x : EnforcedBy). EnforcerInRange x.node) (sym is.same)
      (motion_in_range q group motion few_lists (motion_lies q group motion
      (subst (ListFits q group) (sym (motion_brings wanted.dist motion is.moves).by_list) fits.dist)))
  | inr (inl is) ↦ subst (λ (x : EnforcedBy). EnforcerInRange x.node) (sym is.same)
      (record { some = is.some_order; few = omega (arith, few_orders, fits.numbered) })
  | inr (inr is) ↦ subst (λ (x : EnforcedBy). EnforcerInRange x.node) (sym is.same)
      (record { some = is.some_order; few = omega (arith, few_orders, fits.numbered) })
]
