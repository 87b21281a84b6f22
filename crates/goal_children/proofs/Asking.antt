-- What is asked of a child, for a request that has numbers, has numbers too, whether or not the request lies in the
-- group.
use Rattle.std.proofs.Common.{ℕ, Option, None, Some, sym, subst, inl, inr, arith}
use Rattle.query_core.specs.Expressions.{expr_of, physical_children, IsCandidate}
use Rattle.query_core.specs.declared.query.Query.{Query}
use Rattle.query_core.specs.declared.words.KeyParts.{KeyParts}
use Rattle.query_core.specs.declared.expressions.Children.{Children}
use Rattle.query_core.specs.declared.expressions.Children.TheVariants as arities
use Rattle.query_core.specs.declared.expressions.PhysicalExpr.{PhysicalExpr}
use Rattle.cost_units.specs.declared.shape.Class.{Class}
use Rattle.cost_units.specs.declared.shape.Class.TheVariants as classes
use Rattle.request_props.specs.declared.given.GivenDist.{GivenDist}
use Rattle.request_props.specs.declared.request.Dist.{Dist}
use Rattle.request_props.specs.declared.request.Dist.TheVariants as dists
use Rattle.request_props.specs.declared.request.Request.{Request}
use Rattle.request_props.specs.Dists.{class_of, class_asked, list_given, list_asked}
use Rattle.request_props.specs.Satisfied.{InOneClass, ListMeets, Meets}
use Rattle.request_props.specs.Fitting.{ListFits, DistFits, Fits}
use Rattle.plan_space.specs.Lines.{request}
use Rattle.plan_space.specs.declared.lines.LeftDist.{LeftDist}
use Rattle.plan_space.specs.declared.lines.LeftDist.TheVariants as left_dists
use Rattle.plan_space.specs.declared.lines.LeftOrder.{LeftOrder}
use Rattle.plan_space.specs.declared.lines.LeftOrder.TheVariants as left_orders
use Rattle.plan_space.specs.declared.lines.Line.{Line}
use Rattle.plan_space.specs.declared.lines.Line.TheVariants as lines
use Rattle.plan_space.specs.Alternatives.{dist_asked, left_asked, asked_of, DistServes, OrderServes, LeftServes}
use Rattle.plan_space.specs.Alternatives.{LineServes, IsAlternative}
use Rattle.plan_space.specs.Choices.{groups_of}
use Rattle.plan_space.specs.Enforcers.{EnforcedBy, enforcers_of, Among}
use Rattle.plan_space.proofs.MotionLaws.{enforcer_for}
use Rattle.plan_space.specs.Laws.{RequestsFit, AsksWhatFits}
use Rattle.goal_space.specs.Children.{IsAsked, AsksOf}
use Rattle.goal_children.specs.Over.{IsListNumbered, IsDistNumbered, IsNumberedRequest}

-- ---- requests that fit everywhere

-- a distribution of the class without a list
abbrev plain_by : Class → Dist
plain_by classes.Spread = dists.Spread
plain_by classes.One = dists.One
plain_by classes.Copies = dists.Copies

-- one that rows which lie so meet
abbrev plain_of : GivenDist → Dist
plain_of dist = plain_by (class_of dist)

class_meets : (class : Class) (list : Option ℕ)
    → InOneClass class (class_asked (plain_by class)) (ListMeets list (list_asked (plain_by class)))
class_meets classes.Spread list = tt
class_meets classes.One list = tt
class_meets classes.Copies list = tt

plain_meets : (dist : GivenDist) → Meets dist (plain_of dist)
plain_meets dist = class_meets (class_of dist) (list_given dist)

-- the same, of what a line gives
abbrev plain_dist : LeftDist → Dist
plain_dist (left_dists.Fixed gives asked) = plain_of gives
plain_dist (left_dists.Grouped list) = dists.Spread
plain_dist left_dists.Same = dists.Spread
plain_dist left_dists.SameSpread = dists.Spread

-- a request that fits each group, and that the line serves if it serves any
abbrev plain_request : Line → Request
plain_request (lines.Leaf dist order) = request (plain_of dist) 0
plain_request (lines.Above dist order) = request (plain_dist dist) 0
plain_request (lines.Beside dist order right) = request (plain_dist dist) 0

module _ (q : Query) where
  unordered_fits : (group : KeyParts) (dist : Dist) → DistFits q group dist → Fits q group (request dist 0)
  unordered_fits group dist fits = record {
    dist = fits;
    numbered = omega arith;
    order = λ k d below. absurd (omega (arith, below));
  }

  plain_by_fits : (group : KeyParts) (class : Class) → DistFits q group (plain_by class)
  plain_by_fits group classes.Spread = tt
  plain_by_fits group classes.One = tt
  plain_by_fits group classes.Copies = tt

  plain_of_fits : (group : KeyParts) (dist : GivenDist) → Fits q group (request (plain_of dist) 0)
  plain_of_fits group dist = unordered_fits group (plain_of dist) (plain_by_fits group (class_of dist))

  plain_dist_fits : (group : KeyParts) (dist : LeftDist) → Fits q group (request (plain_dist dist) 0)
  plain_dist_fits group (left_dists.Fixed gives asked) = plain_of_fits group gives
  plain_dist_fits group (left_dists.Grouped list) = unordered_fits group dists.Spread tt
  plain_dist_fits group left_dists.Same = unordered_fits group dists.Spread tt
  plain_dist_fits group left_dists.SameSpread = unordered_fits group dists.Spread tt

  plain_fits : (group : KeyParts) (line : Line) → Fits q group (plain_request line)
  plain_fits group (lines.Leaf dist order) = plain_of_fits group dist
  plain_fits group (lines.Above dist order) = plain_dist_fits group dist
  plain_fits group (lines.Beside dist order right) = plain_dist_fits group dist

  -- ---- lines serve them

  plain_dist_served : (dist : LeftDist) (wanted : Dist) → DistServes q dist wanted → DistServes q dist (plain_dist dist)
  plain_dist_served (left_dists.Fixed gives asked) wanted serves = plain_meets gives
  plain_dist_served (left_dists.Grouped list) wanted serves = (serves.0, tt)
  plain_dist_served left_dists.Same wanted serves = tt
  plain_dist_served left_dists.SameSpread wanted serves = tt

  no_order_served : (order : LeftOrder) → OrderServes q order 0
  no_order_served (left_orders.Fixed gives asked) = tt
  no_order_served left_orders.Same = tt

  plain_left_served : (dist : LeftDist) (order : LeftOrder) (wanted : Request) → LeftServes q dist order wanted
      → LeftServes q dist order (request (plain_dist dist) 0)
  plain_left_served dist order wanted serves = record {
    dist_served = plain_dist_served dist wanted.dist serves.dist_served;
    order_served = no_order_served order;
  }

  -- what is asked of the left child fits it then as well
  plain_dist_asked : (left : KeyParts) (dist : LeftDist) (wanted : Dist) → DistFits q left (dist_asked dist wanted)
      → DistFits q left (dist_asked dist (plain_dist dist))
  plain_dist_asked left (left_dists.Fixed gives asked) wanted fits = fits
  plain_dist_asked left (left_dists.Grouped list) wanted fits = fits
  plain_dist_asked left left_dists.Same wanted fits = tt
  plain_dist_asked left left_dists.SameSpread wanted fits = tt

  plain_asked : (left : KeyParts) (dist : LeftDist) (order : LeftOrder) (wanted : Request)
      → Fits q left (left_asked dist order wanted)
      → Fits q left (left_asked dist order (request (plain_dist dist) 0))
  plain_asked left dist (left_orders.Fixed gives asked) wanted fits = record {
    dist = plain_dist_asked left dist wanted.dist fits.dist;
    numbered = fits.numbered;
    order = fits.order;
  }
  plain_asked left dist left_orders.Same wanted fits =
      unordered_fits left (dist_asked dist (plain_dist dist)) (plain_dist_asked left dist wanted.dist fits.dist)

  plain_served : (line : Line) (children : Children) (wanted : Request) → LineServes q line children wanted
      → LineServes q line children (plain_request line)
  plain_served (lines.Leaf dist order) arities.Zero wanted serves = record { dist = plain_meets dist; order = tt }
  plain_served (lines.Leaf dist order) (arities.One child) wanted serves = absurd serves
  plain_served (lines.Leaf dist order) (arities.Two left right) wanted serves = absurd serves
  plain_served (lines.Above dist order) arities.Zero wanted serves = absurd serves
  plain_served (lines.Above dist order) (arities.One child) wanted serves = plain_left_served dist order wanted serves
  plain_served (lines.Above dist order) (arities.Two left right) wanted serves = absurd serves
  plain_served (lines.Beside dist order asked) arities.Zero wanted serves = absurd serves
  plain_served (lines.Beside dist order asked) (arities.One child) wanted serves = absurd serves
  plain_served (lines.Beside dist order asked) (arities.Two left right) wanted serves = record {
    serves = plain_left_served dist order wanted serves.serves;
    fits = plain_asked left dist order wanted serves.fits;
  }

  -- ---- so what lines ask for has numbers

  fitting_list : (group : KeyParts) (list : Option ℕ) → ListFits q group list → IsListNumbered q list
  fitting_list group None fits = tt
  fitting_list group (Some list) fits = fits.numbered

  fitting_dist : (group : KeyParts) (dist : Dist) → DistFits q group dist → IsDistNumbered q dist
  fitting_dist group dist = fitting_list group (list_asked dist)

  pub fitting_request : (group : KeyParts) (wanted : Request) → Fits q group wanted → IsNumberedRequest q wanted
  fitting_request group wanted fits = record { dist = fitting_dist group wanted.dist fits.dist; order = fits.numbered }

  left_dist_numbered : (child : KeyParts) (dist : LeftDist) (wanted : Dist) → IsDistNumbered q wanted
      → DistFits q child (dist_asked dist (plain_dist dist))
      → IsDistNumbered q (dist_asked dist wanted)
  left_dist_numbered child (left_dists.Fixed gives asked) wanted numbered fits = fitting_dist child asked fits
  left_dist_numbered child (left_dists.Grouped list) wanted numbered fits = fitting_dist child (dists.Hashed list) fits
  left_dist_numbered child left_dists.Same wanted numbered fits = numbered
  left_dist_numbered child left_dists.SameSpread wanted numbered fits = numbered

  left_numbered : (child : KeyParts) (dist : LeftDist) (order : LeftOrder) (wanted : Request)
      → IsNumberedRequest q wanted
      → Fits q child (left_asked dist order (request (plain_dist dist) 0))
      → IsNumberedRequest q (left_asked dist order wanted)
  left_numbered child dist (left_orders.Fixed gives asked) wanted numbered fits =
      record { dist = left_dist_numbered child dist wanted.dist numbered.dist fits.dist; order = fits.numbered }
  left_numbered child dist left_orders.Same wanted numbered fits =
      record { dist = left_dist_numbered child dist wanted.dist numbered.dist fits.dist; order = numbered.order }

  wish_numbered : (line : Line) (children : Children) (wanted : Request) (group : KeyParts) (below : Request)
      → IsNumberedRequest q wanted
      → RequestsFit q (groups_of children) (asked_of line (plain_request line))
      → IsAsked (groups_of children) (asked_of line wanted) group below
      → IsNumberedRequest q below
  wish_numbered line arities.Zero wanted group below numbered fit asked = absurd asked
  wish_numbered (lines.Leaf dist order) (arities.One child) wanted group below numbered fit asked = absurd asked
  wish_numbered (lines.Leaf dist order) (arities.Two left right) wanted group below numbered fit asked = absurd asked
  wish_numbered (lines.Above dist order) (arities.One child) wanted group below numbered fit (inl same) =
      subst (IsNumberedRequest q) (sym same.1) (left_numbered child dist order wanted numbered fit.0)
  wish_numbered (lines.Above dist order) (arities.One child) wanted group below numbered fit (inr none) = absurd none
  wish_numbered (lines.Above dist order) (arities.Two left right) wanted group below numbered fit asked = absurd fit.1
  wish_numbered (lines.Beside dist order other) (arities.One child) wanted group below numbered fit asked = absurd fit.1
  wish_numbered (lines.Beside dist order other) (arities.Two left right) wanted group below numbered fit (inl same) =
      subst (IsNumberedRequest q) (sym same.1) (left_numbered left dist order wanted numbered fit.0)
  wish_numbered (lines.Beside dist order other) (arities.Two left right) wanted group below numbered fit
      (inr (inl same)) =
      subst (IsNumberedRequest q) (sym same.1) (fitting_request right other fit.1.0)
  wish_numbered (lines.Beside dist order other) (arities.Two left right) wanted group below numbered fit
      (inr (inr none)) = absurd none

  -- what an alternative asks for has numbers
  pub asks_numbered : AsksWhatFits q → (e : PhysicalExpr) (wanted : Request) (group : KeyParts) (below : Request)
      → IsCandidate q (expr_of e)
      → IsNumberedRequest q wanted → AsksOf q e wanted group below → IsNumberedRequest q below
  asks_numbered asks_what_fits e wanted group below candidate numbered asks =
      let line = asks.line in
      let children = physical_children e.operator in
      let alternative : IsAlternative q e (plain_request line) asks.mode line =
      record {
        is_line = asks.is_alternative.is_line;
        serves = plain_served line children wanted asks.is_alternative.serves;
      } in
      let fit = asks_what_fits e asks.mode line (plain_request line) candidate (plain_fits e.group line) alternative in
      wish_numbered line children wanted group below numbered fit asks.is_asked

  -- ---- and what enforcers ask for

  unordered_numbered : (dist : Dist) → IsDistNumbered q dist → IsNumberedRequest q (request dist 0)
  unordered_numbered dist numbered = record { dist = numbered; order = omega arith }

  -- what an enforcer asks for has numbers
  pub enforcer_numbered : (wanted : Request) (e : EnforcedBy) → IsNumberedRequest q wanted
      → Among e (enforcers_of wanted) → IsNumberedRequest q e.below
  enforcer_numbered wanted e numbered among = elim (enforcer_for wanted e among) [
    | inl (motion, is) ↦ subst (λ (x : EnforcedBy). IsNumberedRequest q x.below) (sym is.same)
        (unordered_numbered dists.Spread tt)
    | inr (inl is) ↦ subst (λ (x : EnforcedBy). IsNumberedRequest q x.below) (sym is.same)
        (unordered_numbered wanted.dist numbered.dist)
    | inr (inr is) ↦ subst (λ (x : EnforcedBy). IsNumberedRequest q x.below) (sym is.same)
        (record { dist = tt; order = numbered.order })
  ]
