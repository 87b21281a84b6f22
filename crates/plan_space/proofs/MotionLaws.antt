-- Motions: to which distributions they bring rows, and how each enforcer for a request is one, a sort or a merge.
use Rattle.std.proofs.Common.{◌≡◌, ◌⊎◌, ℕ, zero, suc, Bool, true, false, Option, None, Some, inl, inr, refl, sym, ap}
use Rattle.std.proofs.Common.{subst, arith}
use Rattle.query_core.specs.declared.query.Query.{Query}
use Rattle.request_props.specs.Dists.{list_given}
use Rattle.request_props.specs.Fitting.{ListFits}
use Rattle.request_props.specs.Satisfied.{Meets}
use Rattle.request_props.specs.declared.given.Given.{Given}
use Rattle.request_props.specs.declared.given.GivenOrder.TheVariants.{Listed}
use Rattle.request_props.specs.declared.request.Dist.{Dist}
use Rattle.request_props.specs.declared.request.Dist.TheVariants.{One, Spread, Copies, Hashed}
use Rattle.request_props.specs.declared.request.Request.{Request}
use Rattle.plan_space.specs.declared.nodes.Enforcer.{Enforcer}
use Rattle.plan_space.specs.declared.nodes.Enforcer.TheVariants as enforcers
use Rattle.plan_space.specs.declared.nodes.Motion.{Motion}
use Rattle.plan_space.specs.declared.nodes.Motion.TheVariants as motions
use Rattle.plan_space.specs.declared.seen.Kid.{Kid}
use Rattle.plan_space.specs.Lines.{request}
use Rattle.plan_space.specs.Gives.{gives_so, enforcer_gives}
use Rattle.plan_space.specs.Valid.{IsSpread, EnforcerFits}
use Rattle.plan_space.specs.Enforcers.{EnforcedBy, enforced, below_of, motion_to, moved_by, moving, merges_to}
use Rattle.plan_space.specs.Enforcers.{motions_in, mergers_if, enforcers_by, enforcers_of, Among, BringsTo, IsEnforcerFor}

-- ---- the motion to a distribution

pub motion_brings : (dist : Dist) (motion : Motion) → motion_to dist ≡ Some motion → BringsTo motion dist
motion_brings One motion is = let same : motions.Gather ≡ motion = cc in
    subst (λ m. BringsTo m One) same (record { meets = tt; by_list = refl })
motion_brings Spread motion is = cc
motion_brings Copies motion is = let same : motions.Broadcast ≡ motion = cc in
    subst (λ m. BringsTo m Copies) same (record { meets = tt; by_list = refl })
motion_brings (Hashed list) motion is = let same : motions.Redistribute list ≡ motion = cc in
    subst (λ m. BringsTo m (Hashed list)) same (record { meets = refl; by_list = refl })

pub none_moves : (dist : Dist) → motion_to dist ≡ None → dist ≡ Spread
none_moves One is = cc
none_moves Spread is = refl
none_moves Copies is = cc
none_moves (Hashed list) is = cc

pub motion_serves : (motion : Motion) (dist : Dist) → Meets (moved_by motion) dist
    → (dist ≡ Spread) ⊎ (motion_to dist ≡ Some motion)
motion_serves motions.Gather One meets = inr refl
motion_serves motions.Broadcast Copies meets = inr refl
motion_serves (motions.Redistribute list) Spread meets = inl refl
motion_serves (motions.Redistribute list) (Hashed other) meets =
    inr (ap (λ l. Some (motions.Redistribute l)) (sym meets))
motion_serves motion dist meets = absurd meets

-- an order is kept on the way to one segment alone
merge_moves : (dist : Dist) → merges_to dist ≡ true → motion_to dist ≡ Some motions.Gather
merge_moves One is = refl
merge_moves Spread is = cc
merge_moves Copies is = cc
merge_moves (Hashed list) is = cc

-- ---- the enforcers of motions

-- each enforcer moves rows, or sorts or merges
pub enforcer_cases : (Fact : Enforcer → Type 0) → ((motion : Motion) → Fact (moving motion))
    → ((order : ℕ) → Fact (enforcers.Sort order)) → ((order : ℕ) → Fact (enforcers.GatherMerge order))
    → (e : Enforcer) → Fact e
enforcer_cases Fact moves sorts merges enforcers.Gather = moves motions.Gather
enforcer_cases Fact moves sorts merges enforcers.Broadcast = moves motions.Broadcast
enforcer_cases Fact moves sorts merges (enforcers.Sort order) = sorts order
enforcer_cases Fact moves sorts merges (enforcers.GatherMerge order) = merges order
enforcer_cases Fact moves sorts merges (enforcers.Redistribute list) = moves (motions.Redistribute list)

-- a motion gives rows where it brings them, in no order
pub motion_gives : (motion : Motion) (given : Given)
    → enforcer_gives (moving motion) given ≡ gives_so (moved_by motion) (Listed 0)
motion_gives motions.Gather given = refl
motion_gives motions.Broadcast given = refl
motion_gives (motions.Redistribute list) given = refl

-- it asks for rows that are shared out
pub motion_asks : (motion : Motion) (wanted : Request) → below_of (moving motion) wanted ≡ request Spread 0
motion_asks motions.Gather wanted = refl
motion_asks motions.Broadcast wanted = refl
motion_asks (motions.Redistribute list) wanted = refl

-- it may stand over rows that are shared out, where its list fits the group
pub motion_fits : (q : Query) (motion : Motion) (kid : Kid) → IsSpread kid.given.dist
    → ListFits q kid.group (list_given (moved_by motion)) → EnforcerFits q (moving motion) kid
motion_fits q motions.Gather kid spread fits = spread
motion_fits q motions.Broadcast kid spread fits = spread
motion_fits q (motions.Redistribute list) kid spread fits = record { is_spread = spread; hash_fits = fits }

-- and over no others
pub motion_needs : (q : Query) (motion : Motion) (kid : Kid) → EnforcerFits q (moving motion) kid
    → IsSpread kid.given.dist × ListFits q kid.group (list_given (moved_by motion))
motion_needs q motions.Gather kid fits = (fits, tt)
motion_needs q motions.Broadcast kid fits = (fits, tt)
motion_needs q (motions.Redistribute list) kid fits = (fits.is_spread, fits.hash_fits)

-- ---- the enforcers for a request

motion_for : (dist : Dist) (e : EnforcedBy) (found : Option Motion) → motion_to dist ≡ found → Among e (motions_in found)
    → IsEnforcerFor (request dist 0) e
motion_for dist e None is none = absurd none
motion_for dist e (Some motion) is (inl same) = inl (motion, record { no_order = refl; moves = is; same = same })
motion_for dist e (Some motion) is (inr none) = absurd none

merge_for : (dist : Dist) (o : ℕ) (e : EnforcedBy) (merged : Bool) → merges_to dist ≡ merged
    → Among e (mergers_if merged (suc o)) → IsEnforcerFor (request dist (suc o)) e
merge_for dist o e false is none = absurd none
merge_for dist o e true is (inl same) =
    inr (inr (record { some_order = omega arith; moves = merge_moves dist is; same = same }))
merge_for dist o e true is (inr none) = absurd none

for_order : (dist : Dist) (order : ℕ) (e : EnforcedBy) → Among e (enforcers_by dist order)
    → IsEnforcerFor (request dist order) e
for_order dist zero e among = motion_for dist e (motion_to dist) refl among
for_order dist (suc o) e (inl same) = inr (inl (record { some_order = omega arith; same = same }))
for_order dist (suc o) e (inr later) = merge_for dist o e (merges_to dist) refl later

-- each enforcer for a request moves, sorts or merges for it
pub enforcer_for : (wanted : Request) (e : EnforcedBy) → Among e (enforcers_of wanted) → IsEnforcerFor wanted e
enforcer_for wanted e among = for_order wanted.dist wanted.order e among

-- what it asks for
pub enforcer_asks : (wanted : Request) (e : EnforcedBy) → Among e (enforcers_of wanted)
    → e.below ≡ below_of e.node wanted
enforcer_asks wanted e among = elim (enforcer_for wanted e among) [
  | inl (motion, is) ↦ subst (λ (x : EnforcedBy). x.below ≡ below_of x.node wanted) (sym is.same)
      (sym (motion_asks motion wanted))
  | inr (inl is) ↦ subst (λ (x : EnforcedBy). x.below ≡ below_of x.node wanted) (sym is.same) refl
  | inr (inr is) ↦ subst (λ (x : EnforcedBy). x.below ≡ below_of x.node wanted) (sym is.same) refl
]

-- ---- and back

-- the motion to a distribution is one of its enforcers
pub motion_among : (dist : Dist) (motion : Motion) → motion_to dist ≡ Some motion
    → Among (enforced (moving motion) (request Spread 0)) (enforcers_of (request dist 0))
motion_among dist motion is =
    subst (λ found. Among (enforced (moving motion) (request Spread 0)) (motions_in found)) (sym is) (inl refl)

-- so is the merge, where a gather is the motion
pub merge_among : (dist : Dist) (o : ℕ) → motion_to dist ≡ Some motions.Gather
    → Among (enforced (enforcers.GatherMerge (suc o)) (request Spread (suc o))) (enforcers_of (request dist (suc o)))
merge_among dist o is = inr (rw is (inl refl))
