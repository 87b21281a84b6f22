-- What a valid plan gives lies in its group.
use Rattle.std.proofs.Common.{◌≡◌, List, [], ◌∷◌, refl, sym, subst}
use Rattle.std.specs.Prelude.{Option, Some, None}
use Rattle.query_core.specs.Expressions.{expr_of, physical_children, IsCandidate}
use Rattle.query_core.specs.declared.query.Query.{Query}
use Rattle.query_core.specs.declared.words.KeyParts.{KeyParts}
use Rattle.query_core.specs.declared.expressions.Children.{Children}
use Rattle.query_core.specs.declared.expressions.ExprParts.{ExprParts}
use Rattle.request_props.specs.Satisfied.{given_order}
use Rattle.request_props.specs.declared.given.GivenDist.{GivenDist}
use Rattle.request_props.specs.declared.given.GivenDist.TheVariants.{One}
use Rattle.request_props.specs.declared.given.GivenOrder.{GivenOrder}
use Rattle.request_props.specs.Lying.{OrderLiesIn}
use Rattle.plan_space.specs.Nodes.{Tree, leaf, over, two}
use Rattle.plan_space.specs.declared.nodes.NodeKind.{NodeKind}
use Rattle.plan_space.specs.declared.nodes.NodeKind.TheVariants as nodes
use Rattle.plan_space.specs.declared.nodes.Enforcer.{Enforcer}
use Rattle.plan_space.specs.Lines.{line_of}
use Rattle.plan_space.specs.declared.lines.LeftDist.{LeftDist}
use Rattle.plan_space.specs.declared.lines.LeftDist.TheVariants as left_dists
use Rattle.plan_space.specs.declared.lines.LeftOrder.{LeftOrder}
use Rattle.plan_space.specs.declared.lines.LeftOrder.TheVariants as left_orders
use Rattle.plan_space.specs.declared.lines.Line.{Line}
use Rattle.plan_space.specs.declared.lines.Line.TheVariants as lines
use Rattle.plan_space.specs.declared.seen.Kid.{Kid}
use Rattle.plan_space.specs.Gives.{first_group, first_given, left_dist, left_order, left_gives, line_gives}
use Rattle.plan_space.specs.Gives.{gives_by, enforcer_gives, node_group, node_gives, kid_of, gives}
use Rattle.plan_space.specs.Valid.{DistNeeds, LeftNeeds, OverOne, LineFits, FitsBy, EnforcerFits, NodeFits, IsValid}
use Rattle.plan_space.specs.Laws.{DistLiesIn, GivenFits, KidsFit}
use Rattle.plan_space.specs.Enforcers.{moved_by}
use Rattle.plan_space.proofs.MotionLaws.{enforcer_cases, motion_gives, motion_needs}
use Rattle.plan_space.proofs.Numbers.{ListingIsOne}
use Rattle.plan_space.proofs.Candidates.{candidate_line_fits}
use Rattle.plan_space.proofs.Fitting.{DistWithin, OrderWithin, LeftWithin, IsFitting, no_order_fits, dist_lies}

module _ (q : Query) where
  -- ---- lines

  -- the distribution that a line gives over a left child lies in the group
  left_dist_lies : (group left : KeyParts) (dist : LeftDist) (given : GivenDist) → DistWithin q group left dist
      → DistNeeds q dist given
      → DistLiesIn q left given → DistLiesIn q group (left_dist dist given)
  left_dist_lies group left (left_dists.Fixed fixed asked) given within needs lies = within
  left_dist_lies group left (left_dists.Grouped list) given within needs lies = within needs.0
  left_dist_lies group left left_dists.Same given within needs lies = within given lies
  left_dist_lies group left left_dists.SameSpread given within needs lies = within given lies

  -- so does the order
  left_order_lies : (group left : KeyParts) (order : LeftOrder) (given : GivenOrder) → OrderWithin q group left order
      → OrderLiesIn q left (given_order q given) → OrderLiesIn q group (given_order q (left_order order given))
  left_order_lies group left (left_orders.Fixed fixed asked) given within lies = within
  left_order_lies group left left_orders.Same given within lies = within (given_order q given) lies

  -- what a line gives over a left child
  left_gives_fits : (group : KeyParts) (dist : LeftDist) (order : LeftOrder) (left : Kid)
      → LeftWithin q group left.group dist order
      → LeftNeeds q dist order left.given → GivenFits q left.group left.given
      → GivenFits q group (left_gives dist order left.given)
  left_gives_fits group dist order left within needs fits = record {
    dist = left_dist_lies group left.group dist left.given.dist within.dist_within needs.dist_met fits.dist;
    order = left_order_lies group left.group order left.given.order within.order_within fits.order;
  }

  -- what a line gives over its kids
  line_gives_fits : (group : KeyParts) (children : Children) (line : Line) (kids : List Kid)
      → IsFitting q group children line → LineFits q line children kids
      → KidsFit q kids → GivenFits q group (line_gives line kids)
  line_gives_fits group children (lines.Leaf dist order) kids fitting fits kids_fit = fitting.gives
  line_gives_fits group children (lines.Above dist order) [] fitting fits kids_fit = absurd fits
  line_gives_fits group children (lines.Above dist order) (kid ∷ []) fitting fits kids_fit =
      let own = subst (λ c. IsFitting q group c (lines.Above dist order)) fits.of_child fitting in
      left_gives_fits group dist order kid own.gives fits.left kids_fit.0
  line_gives_fits group children (lines.Above dist order) (kid ∷ other ∷ others) fitting fits kids_fit = absurd fits
  line_gives_fits group children (lines.Beside dist order request) [] fitting fits kids_fit = absurd fits
  line_gives_fits group children (lines.Beside dist order request) (kid ∷ []) fitting fits kids_fit = absurd fits
  line_gives_fits group children (lines.Beside dist order request) (left ∷ right ∷ []) fitting fits kids_fit =
      let own = subst (λ c. IsFitting q group c (lines.Beside dist order request)) fits.of_children fitting in
      left_gives_fits group dist order left own.gives fits.left kids_fit.0
  line_gives_fits group children (lines.Beside dist order request) (left ∷ right ∷ other ∷ others) fitting fits
      kids_fit = absurd fits

  -- the same for a mode, which has a line where the expression may stand in it
  mode_gives_fits : (group : KeyParts) (children : Children) (found : Option Line) (kids : List Kid)
      → ((line : Line) → found ≡ Some line → IsFitting q group children line) → FitsBy q found children kids
      → KidsFit q kids
      → GivenFits q group (gives_by found kids)
  mode_gives_fits group children None kids fitting fits kids_fit = absurd fits
  mode_gives_fits group children (Some line) kids fitting fits kids_fit =
      line_gives_fits group children line kids (fitting line refl) fits kids_fit

  -- ---- nodes

  -- an enforcer gives what lies in the group of its kid
  enforcer_gives_fits : (e : Enforcer) (kid : Kid) → EnforcerFits q e kid → GivenFits q kid.group kid.given
      → GivenFits q kid.group (enforcer_gives e kid.given)
  enforcer_gives_fits e kid =
      enforcer_cases (λ (e : Enforcer). EnforcerFits q e kid → GivenFits q kid.group kid.given
      → GivenFits q kid.group (enforcer_gives e kid.given))
      (λ motion can fits. subst (GivenFits q kid.group) (sym (motion_gives motion kid.given)) (record {
        dist = dist_lies q kid.group (moved_by motion) (motion_needs q motion kid can).1;
        order = (no_order_fits q kid.group).1;
      }))
      (λ order can fits. record { dist = fits.dist; order = can.lies_in })
      (λ order can fits. record { dist = dist_lies q kid.group One tt; order = can.can_sort.lies_in }) e

  -- and it has one kid
  over_one_fits : (e : Enforcer) (kids : List Kid) → OverOne (EnforcerFits q e) kids → KidsFit q kids
      → GivenFits q (first_group kids) (enforcer_gives e (first_given kids))
  over_one_fits e [] fits kids_fit = absurd fits
  over_one_fits e (kid ∷ []) fits kids_fit = enforcer_gives_fits e kid fits kids_fit.0
  over_one_fits e (kid ∷ other ∷ others) fits kids_fit = absurd fits

  module _ (Member : ExprParts → Type 0) (known : (e : ExprParts) → Member e → IsCandidate q e) (one : ListingIsOne)
    where
      -- what a node gives over kids that give what fits
      node_gives_fits : (node : NodeKind) (kids : List Kid) → NodeFits Member q node kids → KidsFit q kids
          → GivenFits q (node_group node kids) (node_gives q node kids)
      node_gives_fits (nodes.Native e mode) kids fits kids_fit =
          mode_gives_fits e.group (physical_children e.operator) (line_of q e mode) kids
          (λ line is. candidate_line_fits one q e mode line (known (expr_of e) fits.0) is) fits.1 kids_fit
      node_gives_fits (nodes.Enforcer e) kids fits kids_fit = over_one_fits e kids fits kids_fit

      -- what a valid plan gives lies in its group, from the leaves up
      pub plan_gives_fits : (plan : Tree) → IsValid Member q plan → GivenFits q (kid_of q plan).group (gives q plan)
      plan_gives_fits (leaf node) valid = node_gives_fits node [] valid tt
      plan_gives_fits (over node kid) (below, fits) =
          node_gives_fits node (kid_of q kid ∷ []) fits (plan_gives_fits kid below, tt)
      plan_gives_fits (two node left right) (left_valid, right_valid, fits) =
          node_gives_fits node (kid_of q left ∷ kid_of q right ∷ []) fits
          (plan_gives_fits left left_valid, (plan_gives_fits right right_valid, tt))
