-- What enforcers ask for: it fits the group, and its least plan has a node less.
use Rattle.std.proofs.Common.{◌≡◌, ℕ, zero, suc, ◌≤◌, ◌+◌, Some, length, refl, ap, subst, sym, inl, inr, arith}
use Rattle.std.specs.Prelude.{[]}
use Rattle.query_core.specs.declared.query.Query.{Query}
use Rattle.query_core.specs.declared.words.KeyParts.{KeyParts}
use Rattle.request_props.specs.declared.request.Dist.{Dist}
use Rattle.request_props.specs.declared.request.Request.{Request}
use Rattle.request_props.specs.Lying.{OrderLiesIn}
use Rattle.request_props.specs.Fitting.{Fits}
use Rattle.plan_space.specs.declared.nodes.Motion.{Motion}
use Rattle.plan_space.specs.declared.nodes.Motion.TheVariants as motions
use Rattle.plan_space.specs.Enforcers.{EnforcedBy, motion_to, motions_in, enforcers_of, Among}
use Rattle.plan_space.proofs.MotionLaws.{enforcer_for}
use Rattle.plan_space.proofs.NodeCounts.{dist_nodes, order_nodes, most_nodes}

pub record IsBelow (q : Query) (group : KeyParts) (wanted : Request) (e : EnforcedBy) : Type 0 where
  pub fits : Fits q group e.below
  pub nodes : 1 + most_nodes group e.below ≤ most_nodes group wanted

empty_lies : (q : Query) (group : KeyParts) → OrderLiesIn q group []
empty_lies q group k d below = absurd (omega (arith, below))

-- where there is a motion to the distribution, a plan for it has its node
one_moves : (dist : Dist) (motion : Motion) → motion_to dist ≡ Some motion → dist_nodes dist ≡ 1
one_moves dist motion moves = ap (λ found. length (motions_in found)) moves

one_sorts : (order : ℕ) → 1 ≤ order → order_nodes order ≡ 1
one_sorts zero some = absurd (omega (arith, some))
one_sorts (suc o) some = refl

-- what an enforcer asks for fits the group, and has a node less
pub enforcer_below : (q : Query) (group : KeyParts) (wanted : Request) (e : EnforcedBy) → Fits q group wanted
    → Among e (enforcers_of wanted) → IsBelow q group wanted e
enforcer_below q group wanted e fits among = elim (enforcer_for wanted e among) [
  | inl (motion, is) ↦ subst (IsBelow q group wanted) (sym is.same) (record {
    fits = record { dist = tt; numbered = omega arith; order = empty_lies q group };
    nodes = omega (arith, one_moves wanted.dist motion is.moves);
  })
  | inr (inl is) ↦ subst (IsBelow q group wanted) (sym is.same) (record {
    fits = record { dist = fits.dist; numbered = omega arith; order = empty_lies q group };
    nodes = omega (arith, one_sorts wanted.order is.some_order);
  })
  | inr (inr is) ↦ subst (IsBelow q group wanted) (sym is.same) (record {
    fits = record { dist = tt; numbered = fits.numbered; order = fits.order };
    nodes = omega (arith, one_moves wanted.dist motions.Gather is.moves);
  })
]
