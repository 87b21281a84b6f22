-- How an expression in a mode may serve a request, and what it asks of its children then.
use Rattle.std.specs.Prelude.{ℕ, ◌≡◌, IsTrue, List, [], ◌∷◌, Some, ⊤}
use Rattle.query_core.specs.Expressions.{physical_children}
use Rattle.query_core.specs.declared.query.Query.{Query}
use Rattle.query_core.specs.declared.words.KeyParts.{KeyParts}
use Rattle.query_core.specs.declared.expressions.Children.{Children}
use Rattle.query_core.specs.declared.expressions.Children.TheVariants as arities
use Rattle.query_core.specs.declared.expressions.PhysicalExpr.{PhysicalExpr}
use Rattle.cost_units.specs.declared.shape.Class.TheVariants as classes
use Rattle.request_props.specs.Numbered.{order_of, is_grouped_list}
use Rattle.request_props.specs.Dists.{class_asked}
use Rattle.request_props.specs.Satisfied.{InOneClass, Meets, BeginsWith, given_order, Satisfies}
use Rattle.request_props.specs.declared.given.GivenDist.TheVariants as given
use Rattle.request_props.specs.declared.request.Dist.{Dist}
use Rattle.request_props.specs.declared.request.Dist.TheVariants.{Hashed}
use Rattle.request_props.specs.declared.request.Request.{Request}
use Rattle.request_props.specs.Fitting.{Fits}
use Rattle.plan_space.specs.Lines.{line_of, request}
use Rattle.plan_space.specs.declared.lines.LeftDist.{LeftDist}
use Rattle.plan_space.specs.declared.lines.LeftDist.TheVariants as left_dists
use Rattle.plan_space.specs.declared.lines.LeftOrder.{LeftOrder}
use Rattle.plan_space.specs.declared.lines.LeftOrder.TheVariants as left_orders
use Rattle.plan_space.specs.declared.lines.Line.{Line}
use Rattle.plan_space.specs.declared.lines.Line.TheVariants as lines
use Rattle.plan_space.specs.declared.seen.Kid.{Kid}
use Rattle.plan_space.specs.Gives.{gives_so}

-- rows on all segments are asked for, each on one of them
abbrev pub WantsSpread : Dist → Type 0
WantsSpread dist = InOneClass classes.Spread (class_asked dist) ⊤

-- the distribution that is asked of the left child, where this one is asked for
abbrev pub dist_asked : LeftDist → Dist → Dist
dist_asked (left_dists.Fixed given asked) dist = asked
dist_asked (left_dists.Grouped list) dist = Hashed list
dist_asked left_dists.Same dist = dist
dist_asked left_dists.SameSpread dist = dist

-- the order that is asked of the left child, where this one is asked for
abbrev pub order_asked : LeftOrder → ℕ → ℕ
order_asked (left_orders.Fixed given asked) order = asked
order_asked left_orders.Same order = order

-- what is asked of the left child
abbrev pub left_asked : LeftDist → LeftOrder → Request → Request
left_asked dist order wanted = request (dist_asked dist wanted.dist) (order_asked order wanted.order)

-- the line can give the distribution that is asked for
abbrev pub DistServes : Query → LeftDist → Dist → Type 0
DistServes q (left_dists.Fixed given asked) dist = Meets given dist
DistServes q (left_dists.Grouped list) dist = IsTrue (is_grouped_list q list) × Meets (given.Hashed list) dist
DistServes q left_dists.Same dist = ⊤
DistServes q left_dists.SameSpread dist = WantsSpread dist

-- the line can give the order that is asked for
abbrev pub OrderServes : Query → LeftOrder → ℕ → Type 0
OrderServes q (left_orders.Fixed given asked) order = BeginsWith (given_order q given) (order_of q order)
OrderServes q left_orders.Same order = ⊤

-- the line can give what is asked for
pub record LeftServes (q : Query) (dist : LeftDist) (order : LeftOrder) (wanted : Request) : Type 0 where
  pub dist_served : DistServes q dist wanted.dist
  pub order_served : OrderServes q order wanted.order

-- so can that of a join, and what it asks of the left child for it fits that group
pub record JoinServes (q : Query) (left : KeyParts) (dist : LeftDist) (order : LeftOrder) (wanted : Request) : Type 0
  where
    pub serves : LeftServes q dist order wanted
    pub fits : Fits q left (left_asked dist order wanted)

-- the line is there for the request, over these children
abbrev pub LineServes : Query → Line → Children → Request → Type 0
LineServes q (lines.Leaf dist order) arities.Zero wanted = Satisfies q (gives_so dist order) wanted
LineServes q (lines.Leaf dist order) (arities.One child) wanted = ⊥
LineServes q (lines.Leaf dist order) (arities.Two left right) wanted = ⊥
LineServes q (lines.Above dist order) arities.Zero wanted = ⊥
LineServes q (lines.Above dist order) (arities.One child) wanted = LeftServes q dist order wanted
LineServes q (lines.Above dist order) (arities.Two left right) wanted = ⊥
LineServes q (lines.Beside dist order request) arities.Zero wanted = ⊥
LineServes q (lines.Beside dist order request) (arities.One child) wanted = ⊥
LineServes q (lines.Beside dist order request) (arities.Two left right) wanted = JoinServes q left dist order wanted

-- what the line asks of each child, the left one first
abbrev pub asked_of : Line → Request → List Request
asked_of (lines.Leaf dist order) wanted = []
asked_of (lines.Above dist order) wanted = left_asked dist order wanted ∷ []
asked_of (lines.Beside dist order request) wanted = left_asked dist order wanted ∷ request ∷ []

-- each kid gives what is asked of it
abbrev pub KidsServe : Query → List Kid → List Request → Type 0
KidsServe q [] [] = ⊤
KidsServe q [] (first ∷ others) = ⊥
KidsServe q (kid ∷ kids) [] = ⊥
KidsServe q (kid ∷ kids) (first ∷ others) = Satisfies q kid.given first × KidsServe q kids others

-- the line of the expression in this mode is there for the request
pub record IsAlternative (q : Query) (e : PhysicalExpr) (wanted : Request) (mode : ℕ) (line : Line) : Type 0 where
  pub is_line : line_of q e mode ≡ Some line
  pub serves : LineServes q line (physical_children e.operator) wanted
