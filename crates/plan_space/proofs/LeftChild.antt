-- A line goes with its left child: it meets a request exactly where it is there for the request and the child gives
-- what is asked of it.
use Rattle.std.proofs.Common.{ℕ, ◌/◌, List, [], ◌∷◌, IsTrue, subst, sym, ◌∙◌}
use Rattle.query_core.specs.Keys.{has_item}
use Rattle.std.specs.Prelude.{All, ⊤}
use Rattle.std.proofs.lemmas.List.Elements.{All-nil, All-cons, All-head, All-tail}
use Rattle.query_core.specs.declared.query.Query.{Query}
use Rattle.query_core.specs.declared.words.KeyParts.{KeyParts}
use Rattle.cost_units.specs.declared.shape.Class.TheVariants as classes
use Rattle.request_props.specs.Dists.{class_asked, list_given, list_asked}
use Rattle.request_props.specs.Numbered.{IsNumbered, order_of}
use Rattle.request_props.specs.Satisfied.{Meets, BeginsWith, given_order, Satisfies}
use Rattle.request_props.specs.declared.given.Given.{Given}
use Rattle.request_props.specs.declared.given.GivenDist.{GivenDist}
use Rattle.request_props.specs.declared.given.GivenOrder.{GivenOrder}
use Rattle.request_props.specs.declared.request.Dist.{Dist}
use Rattle.request_props.specs.declared.request.Request.{Request}
use Rattle.request_props.specs.Lying.{OrderLiesIn}
use Rattle.request_props.specs.Fitting.{DistFits, Fits}
use Rattle.request_props.proofs.Agreeing.{class_parts, in_class, met_class, met_list, met_list_fits}
use Rattle.plan_space.specs.declared.lines.LeftDist.{LeftDist}
use Rattle.plan_space.specs.declared.lines.LeftDist.TheVariants as left_dists
use Rattle.plan_space.specs.declared.lines.LeftOrder.{LeftOrder}
use Rattle.plan_space.specs.declared.lines.LeftOrder.TheVariants as left_orders
use Rattle.plan_space.specs.declared.seen.Kid.{Kid}
use Rattle.plan_space.specs.Gives.{left_dist, left_order, left_gives}
use Rattle.plan_space.specs.Valid.{IsSpread, DistNeeds, OrderNeeds, LeftNeeds}
use Rattle.plan_space.specs.Alternatives.{WantsSpread, dist_asked, order_asked, left_asked, DistServes, OrderServes}
use Rattle.plan_space.specs.Alternatives.{LeftServes}
use Rattle.plan_space.specs.Laws.{GivenDistFits, DistLiesIn, GivenFits}
use Rattle.plan_space.proofs.Fitting.{FixedDistFits, FixedOrderFits, LeftFits}

-- rows that are spread meet only what asks for spread rows
wants_spread : (gives : GivenDist) (wanted : Dist) → IsSpread gives → Meets gives wanted → WantsSpread wanted
wants_spread gives wanted spread meets =
    in_class classes.Spread (class_asked wanted) ⊤ (sym spread ∙ met_class gives wanted meets) tt

-- rows that meet what asks for spread rows are spread
meets_spread : (gives : GivenDist) (wanted : Dist) → WantsSpread wanted → Meets gives wanted → IsSpread gives
meets_spread gives wanted wants meets =
    met_class gives wanted meets ∙ sym (class_parts classes.Spread (class_asked wanted) ⊤ wants).0

-- a distribution that is met fits where the one that is given does
met_fits : (q : Query) (group : KeyParts) (gives : GivenDist) (wanted : Dist) → GivenDistFits q group gives
    → Meets gives wanted → DistFits q group wanted
met_fits q group gives wanted fits meets =
    met_list_fits q group (list_given gives) (list_asked wanted) (met_list gives wanted meets) fits

-- what holds of each element of an order holds of each of one that it begins with
begin_all : (P : ℕ → Type 0) (xs ys : List ℕ) → BeginsWith xs ys → All P xs → All P ys
begin_all P xs [] begins all = All-nil P
begin_all P [] (y ∷ ys) begins all = absurd begins
begin_all P (x ∷ xs) (y ∷ ys) begins all =
    All-cons P y ys (subst P begins.0 (All-head P x xs all)) (begin_all P xs ys begins.1 (All-tail P x xs all))

-- ---- the distribution and the order of a line that goes with its left child

-- where a line's distribution is met, the line can give it, and the left child meets the distribution that is asked of
-- it
dist_splits : (q : Query) (dist : LeftDist) (gives : GivenDist) (wanted : Dist) → DistNeeds q dist gives
    → Meets (left_dist dist gives) wanted
    → DistServes q dist wanted × Meets gives (dist_asked dist wanted)
dist_splits q (left_dists.Fixed fixed asked) gives wanted needs meets = (meets, needs)
dist_splits q (left_dists.Grouped list) gives wanted needs meets = ((needs.0, meets), needs.1)
dist_splits q left_dists.Same gives wanted needs meets = (tt, meets)
dist_splits q left_dists.SameSpread gives wanted needs meets = (wants_spread gives wanted needs meets, meets)

-- where a line's order is met, the line can give it, and the left child meets the order that is asked of it
order_splits : (q : Query) (order : LeftOrder) (gives : GivenOrder) (wanted : ℕ) → OrderNeeds q order gives
    → BeginsWith (given_order q (left_order order gives)) (order_of q wanted)
    → OrderServes q order wanted × BeginsWith (given_order q gives) (order_of q (order_asked order wanted))
order_splits q (left_orders.Fixed fixed asked) gives wanted needs begins = (begins, needs)
order_splits q left_orders.Same gives wanted needs begins = (tt, begins)

-- where a line can give the distribution, and the left child meets the one that is asked of it, the line's distribution
-- is met
dist_joins : (q : Query) (dist : LeftDist) (gives : GivenDist) (wanted : Dist) → DistServes q dist wanted
    → Meets gives (dist_asked dist wanted)
    → DistNeeds q dist gives × Meets (left_dist dist gives) wanted
dist_joins q (left_dists.Fixed fixed asked) gives wanted serves meets = (meets, serves)
dist_joins q (left_dists.Grouped list) gives wanted serves meets = ((serves.0, meets), serves.1)
dist_joins q left_dists.Same gives wanted serves meets = (tt, meets)
dist_joins q left_dists.SameSpread gives wanted serves meets = (meets_spread gives wanted serves meets, meets)

-- where a line can give the order, and the left child meets the one that is asked of it, the line's order is met
order_joins : (q : Query) (order : LeftOrder) (gives : GivenOrder) (wanted : ℕ) → OrderServes q order wanted
    → BeginsWith (given_order q gives) (order_of q (order_asked order wanted))
    → OrderNeeds q order gives × BeginsWith (given_order q (left_order order gives)) (order_of q wanted)
order_joins q (left_orders.Fixed fixed asked) gives wanted serves begins = (begins, serves)
order_joins q left_orders.Same gives wanted serves begins = (tt, begins)

-- the distribution that is asked of the left child fits it: the line's own does, and the request's where the child
-- gives it
dist_asked_fits : (q : Query) (left : KeyParts) (dist : LeftDist) (gives : GivenDist) (wanted : Dist)
    → FixedDistFits q left dist
    → DistLiesIn q left gives → Meets (left_dist dist gives) wanted → DistFits q left (dist_asked dist wanted)
dist_asked_fits q left (left_dists.Fixed fixed asked) gives wanted fixes lies meets = fixes.1
dist_asked_fits q left (left_dists.Grouped list) gives wanted fixes lies meets = fixes
dist_asked_fits q left left_dists.Same gives wanted fixes lies meets =
    met_fits q left gives wanted (fixes gives lies) meets
dist_asked_fits q left left_dists.SameSpread gives wanted fixes lies meets =
    met_fits q left gives wanted (fixes gives lies) meets

-- the order that is asked of the left child fits it: the line's own does, and the request's where the child gives it
order_asked_fits : (q : Query) (left : KeyParts) (order : LeftOrder) (gives : GivenOrder) (wanted : ℕ)
    → FixedOrderFits q left order
    → OrderLiesIn q left (given_order q gives) → IsNumbered q wanted
    → BeginsWith (given_order q (left_order order gives)) (order_of q wanted)
    → IsNumbered q (order_asked order wanted) × OrderLiesIn q left (order_of q (order_asked order wanted))
order_asked_fits q left (left_orders.Fixed fixed asked) gives wanted fixes lies numbered begins = (fixes.1, fixes.2)
order_asked_fits q left left_orders.Same gives wanted fixes lies numbered begins = (
  numbered,
  begin_all (λ element. IsTrue (has_item q left (element / 2))) (given_order q gives) (order_of q wanted)
      begins lies,
)

module _ (q : Query) (dist : LeftDist) (order : LeftOrder) where
  -- where a request is met over a left child, the line is there for it, and the child gives what is asked of it
  pub left_splits : (gives : Given) (wanted : Request) → LeftNeeds q dist order gives
      → Satisfies q (left_gives dist order gives) wanted
      → LeftServes q dist order wanted × Satisfies q gives (left_asked dist order wanted)
  left_splits gives wanted needs satisfies =
      let of_dist = dist_splits q dist gives.dist wanted.dist needs.dist_met satisfies.dist in
      let of_order = order_splits q order gives.order wanted.order needs.order_met satisfies.order in
      (record { dist_served = of_dist.0; order_served = of_order.0 }, record { dist = of_dist.1; order = of_order.1 })

  -- what is asked of the left child of a join fits it, where the child gives it
  pub left_asked_fits : (left : Kid) (wanted : Request) → LeftFits q left.group dist order
      → GivenFits q left.group left.given → IsNumbered q wanted.order
      → Satisfies q (left_gives dist order left.given) wanted → Fits q left.group (left_asked dist order wanted)
  left_asked_fits left wanted fixes fits numbered satisfies =
      let asked = order_asked_fits q left.group order left.given.order wanted.order fixes.order_fits fits.order numbered
      satisfies.order in
      record {
        dist = dist_asked_fits q left.group dist left.given.dist wanted.dist fixes.dist_fits fits.dist satisfies.dist;
        numbered = asked.0;
        order = asked.1;
      }

  -- where the line is there for a request and the left child gives what is asked of it, the request is met
  pub left_joins : (gives : Given) (wanted : Request) → LeftServes q dist order wanted
      → Satisfies q gives (left_asked dist order wanted)
      → LeftNeeds q dist order gives × Satisfies q (left_gives dist order gives) wanted
  left_joins gives wanted serves satisfies =
      let of_dist = dist_joins q dist gives.dist wanted.dist serves.dist_served satisfies.dist in
      let of_order = order_joins q order gives.order wanted.order serves.order_served satisfies.order in
      (record { dist_met = of_dist.0; order_met = of_order.0 }, record { dist = of_dist.1; order = of_order.1 })
