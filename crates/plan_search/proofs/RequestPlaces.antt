-- The places of requests among those of a group.
use Rattle.std.proofs.Common.{◌≡◌, ◌<◌, ◌≤◌, ◌*◌, Some, inl, inr, refl, ap, sym, subst, arith}
use Rattle.query_core.specs.declared.query.Query.{Query}
use Rattle.query_core.specs.declared.words.KeyParts.{KeyParts}
use Rattle.request_props.specs.Numbered.{IsProps}
use Rattle.request_props.specs.declared.props.Props.{Props}
use Rattle.request_props.specs.declared.request.Dist.{Dist}
use Rattle.request_props.specs.declared.request.Dist.TheVariants as dists
use Rattle.request_props.specs.declared.request.Request.{Request}
use Rattle.request_props.specs.Fitting.{Fits, DistFits}
use Rattle.plan_space.specs.declared.nodes.Motion.{Motion}
use Rattle.plan_space.specs.declared.nodes.Motion.TheVariants.{Gather}
use Rattle.plan_space.specs.Enforcers.{EnforcedBy, motion_to, enforcers_of, Among}
use Rattle.plan_space.proofs.MotionLaws.{enforcer_for}
use Rattle.plan_search.specs.Places.{DISTS, ORDERS, dist_place, request_place, place_of}

-- those that fit have one of so many
pub request_small : (q : Query) (group : KeyParts) (props : Props) (wanted : Request) → IsProps q props
    → Fits q group wanted → request_place wanted < DISTS * ORDERS
request_small q group props wanted is fits =
    let dist : dist_place wanted.dist ≤ 62 = dist_small wanted.dist fits.dist in
    omega (arith, dist, fits.numbered, is.few_orders)
  where
    dist_small : (d : Dist) → DistFits q group d → dist_place d ≤ 62
    dist_small dists.One fits = omega arith
    dist_small dists.Spread fits = omega arith
    dist_small dists.Copies fits = omega arith
    dist_small (dists.Hashed list) fits = omega (arith, fits.numbered, is.few_lists)

-- distributions with one place are one
pub dist_is_one : (d e : Dist) → dist_place d ≡ dist_place e → d ≡ e
dist_is_one dists.One dists.One is = refl
dist_is_one dists.Spread dists.Spread is = refl
dist_is_one dists.Copies dists.Copies is = refl
dist_is_one (dists.Hashed list) (dists.Hashed other) is = ap dists.Hashed (omega (arith, is))
dist_is_one d e is = absurd (omega (arith, is))

-- rows that a motion has to bring come behind spread ones
behind_spread : (dist : Dist) (motion : Motion) → motion_to dist ≡ Some motion → 1 ≤ dist_place dist
behind_spread dists.One motion moves = omega arith
behind_spread dists.Spread motion moves = cc
behind_spread dists.Copies motion moves = omega arith
behind_spread (dists.Hashed list) motion moves = omega arith

-- what an enforcer asks for comes before what it is for
pub enforcer_before : (group : KeyParts) (wanted : Request) (e : EnforcedBy) → Among e (enforcers_of wanted)
    → place_of group e.below < place_of group wanted
enforcer_before group wanted e among = elim (enforcer_for wanted e among) [
  | inl (motion, is) ↦ subst (λ (x : EnforcedBy). place_of group x.below < place_of group wanted) (sym is.same)
      (omega (arith, behind_spread wanted.dist motion is.moves))
  | inr (inl is) ↦ subst (λ (x : EnforcedBy). place_of group x.below < place_of group wanted) (sym is.same)
      (omega (arith, is.some_order))
  | inr (inr is) ↦ subst (λ (x : EnforcedBy). place_of group x.below < place_of group wanted) (sym is.same)
      (omega (arith, behind_spread wanted.dist Gather is.moves))
]
