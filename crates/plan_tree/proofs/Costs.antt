-- What the rows of a plan cost by what is asked of it.
use Rattle.std.proofs.Common.{◌≡◌, ℕ, List, [], ◌∷◌, refl, sym, subst}
use Rattle.query_core.specs.Expressions.{physical_children}
use Rattle.query_core.specs.declared.query.Query.{Query}
use Rattle.query_core.specs.declared.words.KeyParts.{KeyParts}
use Rattle.query_core.specs.declared.expressions.Children.{Children}
use Rattle.query_core.specs.declared.expressions.Children.TheVariants as arities
use Rattle.query_core.specs.declared.expressions.PhysicalExpr.{PhysicalExpr}
use Rattle.request_props.specs.Dists.{class_of, class_asked}
use Rattle.request_props.specs.Satisfied.{Meets, Satisfies}
use Rattle.request_props.specs.declared.given.GivenDist.{GivenDist}
use Rattle.request_props.specs.declared.given.GivenDist.TheVariants as given
use Rattle.request_props.specs.declared.request.Dist.{Dist}
use Rattle.request_props.specs.declared.request.Request.{Request}
use Rattle.plan_space.specs.declared.lines.LeftDist.{LeftDist}
use Rattle.plan_space.specs.declared.lines.LeftDist.TheVariants as left_dists
use Rattle.plan_space.specs.declared.lines.Line.{Line}
use Rattle.plan_space.specs.declared.lines.Line.TheVariants.{Leaf, Above, Beside}
use Rattle.plan_space.specs.declared.nodes.Enforcer.{Enforcer}
use Rattle.plan_space.specs.Enforcers.{EnforcedBy, enforcers_of, Among}
use Rattle.plan_space.specs.Lines.{request}
use Rattle.plan_space.specs.declared.seen.Kid.{Kid}
use Rattle.plan_space.specs.Gives.{left_dist, line_gives, native_gives}
use Rattle.plan_space.specs.Alternatives.{DistServes, dist_asked, LineServes, IsAlternative, asked_of, KidsServe}
use Rattle.plan_space.specs.Choices.{groups_of}
use Rattle.plan_space.specs.Laws.{AreOf}
use Rattle.plan_space.specs.Cost.{share_of, first_share, second_share}
use Rattle.plan_tree.specs.Costs.{first_asked, second_asked, IsEnforcerCost, IsCostAmong}

module _ (agree : (dist : GivenDist) (asked : Dist) → Meets dist asked → class_of dist ≡ class_asked asked) where
  -- the share of a kid's rows
  pub share_met : (q : Query) (kid : Kid) (group : KeyParts) (wanted : Request) → kid.group ≡ group
      → Satisfies q kid.given wanted
      → share_of q kid.group (class_of kid.given.dist) ≡ share_of q group (class_asked wanted.dist)
  share_met q kid group wanted of met = let class = agree kid.given.dist wanted.dist met.dist in rw (of, class)

  -- of the first kid's
  pub first_met : (q : Query) (groups : List KeyParts) (kids : List Kid) (wishes : List Request) → AreOf groups kids
      → KidsServe q kids wishes
      → first_share q kids ≡ first_asked q groups wishes
  first_met q [] [] wishes of serve = refl
  first_met q [] (kid ∷ kids) wishes of serve = absurd of
  first_met q (group ∷ groups) [] wishes of serve = absurd of
  first_met q (group ∷ groups) (kid ∷ kids) [] of serve = absurd serve
  first_met q (group ∷ groups) (kid ∷ kids) (wanted ∷ wishes) of serve = share_met q kid group wanted of.0 serve.0

  -- and of the second's
  pub second_met : (q : Query) (groups : List KeyParts) (kids : List Kid) (wishes : List Request) → AreOf groups kids
      → KidsServe q kids wishes
      → second_share q kids ≡ second_asked q groups wishes
  second_met q [] [] wishes of serve = refl
  second_met q [] (kid ∷ kids) wishes of serve = absurd of
  second_met q (group ∷ groups) [] wishes of serve = absurd of
  second_met q (group ∷ groups) (kid ∷ kids) [] of serve = absurd serve
  second_met q (group ∷ []) (kid ∷ []) (wanted ∷ wishes) of serve = refl
  second_met q (group ∷ []) (kid ∷ second ∷ kids) (wanted ∷ wishes) of serve = absurd of.1
  second_met q (group ∷ other ∷ groups) (kid ∷ []) (wanted ∷ wishes) of serve = absurd of.1
  second_met q (group ∷ other ∷ groups) (kid ∷ second ∷ kids) (wanted ∷ []) of serve = absurd serve.1
  second_met q (group ∷ other ∷ groups) (kid ∷ second ∷ kids) (wanted ∷ next ∷ wishes) of serve =
      share_met q second other next of.1.0 serve.1.0

  -- over a left child as asked
  left_met : (q : Query) (dist : LeftDist) (gives : GivenDist) (wanted : Dist) → DistServes q dist wanted
      → Meets gives (dist_asked dist wanted)
      → class_of (left_dist dist gives) ≡ class_asked wanted
  left_met q (left_dists.Fixed made asked) gives wanted serves met = agree made wanted serves
  left_met q (left_dists.Grouped list) gives wanted serves met = agree (given.Hashed list) wanted serves.1
  left_met q left_dists.Same gives wanted serves met = agree gives wanted met
  left_met q left_dists.SameSpread gives wanted serves met = agree gives wanted met

  -- by a line that is there
  line_met : (q : Query) (line : Line) (children : Children) (kids : List Kid) (wanted : Request)
      → LineServes q line children wanted
      → AreOf (groups_of children) kids → KidsServe q kids (asked_of line wanted)
      → class_of (line_gives line kids).dist ≡ class_asked wanted.dist
  line_met q (Leaf dist order) arities.Zero kids wanted serves of serve = agree dist wanted.dist serves.dist
  line_met q (Leaf dist order) (arities.One child) kids wanted serves of serve = absurd serves
  line_met q (Leaf dist order) (arities.Two left right) kids wanted serves of serve = absurd serves
  line_met q (Above dist order) arities.Zero kids wanted serves of serve = absurd serves
  line_met q (Above dist order) (arities.One child) [] wanted serves of serve = absurd of
  line_met q (Above dist order) (arities.One child) (kid ∷ kids) wanted serves of serve =
      left_met q dist kid.given.dist wanted.dist serves.dist_served serve.0.dist
  line_met q (Above dist order) (arities.Two left right) kids wanted serves of serve = absurd serves
  line_met q (Beside dist order request) arities.Zero kids wanted serves of serve = absurd serves
  line_met q (Beside dist order request) (arities.One child) kids wanted serves of serve = absurd serves
  line_met q (Beside dist order request) (arities.Two left right) [] wanted serves of serve = absurd of
  line_met q (Beside dist order request) (arities.Two left right) (kid ∷ kids) wanted serves of serve =
      left_met q dist kid.given.dist wanted.dist serves.serves.dist_served serve.0.dist

  -- an expression's own rows lie as asked
  pub out_met : (q : Query) (e : PhysicalExpr) (mode : ℕ) (line : Line) (kids : List Kid) (wanted : Request)
      → IsAlternative q e wanted mode line
      → AreOf (groups_of (physical_children e.operator)) kids → KidsServe q kids (asked_of line wanted)
      → class_of (native_gives q e mode kids).dist ≡ class_asked wanted.dist
  out_met q e mode line kids wanted is of serve =
      rw is.is_line (line_met q line (physical_children e.operator) kids wanted is.serves of serve)

-- the cost over what an enforcer asks for is that of the enforcer among those for the request
pub cost_by : (q : Query) (enforcer : Enforcer) (group : KeyParts) (wanted below : Request) (price : ℕ)
    → ((e : EnforcedBy) → Among e (enforcers_of wanted) → e.node ≡ enforcer → e.below ≡ below)
    → IsEnforcerCost q enforcer group below price → IsCostAmong q enforcer group wanted price
cost_by q enforcer group wanted below price asked cost e among is =
    subst (λ (x : Enforcer). IsEnforcerCost q x group e.below price) (sym is)
    (subst (λ (b : Request). IsEnforcerCost q enforcer group b price) (sym (asked e among is)) cost)
