-- Plans that cost no more than any other for their request: what such plans below an expression cost.
use Rattle.std.proofs.Common.{◌≡◌, ℕ, ◌≤◌, ◌+◌, ◌*◌, List, [], ◌∷◌, refl, sym, ap, ◌∙◌, arith}
use Rattle.query_core.specs.declared.query.Query.{Query}
use Rattle.query_core.specs.declared.words.KeyParts.{KeyParts}
use Rattle.query_core.specs.declared.expressions.ExprParts.{ExprParts}
use Rattle.query_core.specs.declared.expressions.PhysicalExpr.{PhysicalExpr}
use Rattle.cost_units.specs.declared.shape.CostShape.{CostShape}
use Rattle.cost_units.specs.Cost.{local_cost, most_cost}
use Rattle.request_props.specs.declared.request.Request.{Request}
use Rattle.request_props.specs.Fitting.{Fits}
use Rattle.plan_space.specs.Nodes.{Tree, over, two}
use Rattle.plan_space.specs.declared.nodes.NodeKind.TheVariants as nodes
use Rattle.plan_space.specs.Gives.{kid_of, gives}
use Rattle.plan_space.specs.Valid.{IsValid}
use Rattle.request_props.specs.Dists.{class_of}
use Rattle.plan_space.specs.Cost.{cost_of}
use Rattle.plan_space.specs.Alternatives.{KidsServe}
use Rattle.plan_space.specs.Least.{Serves}
use Rattle.plan_space.specs.Laws.{AreOf, RequestsFit}
use Rattle.plan_space.proofs.Exchange.{same_class}
use Rattle.plan_space.proofs.Kids.{sights, same_native_shape}
use Rattle.plan_space.proofs.NodeCounts.{most_nodes, nodes_below, request_few}

-- a plan for the request, and none costs less
pub record IsCheapest (Member : ExprParts → Type 0) (q : Query) (group : KeyParts) (wanted : Request) (plan : Tree) :
    Type 0 where
  pub serves : Serves Member q group wanted plan
  pub cheapest : (other : Tree) → Serves Member q group wanted other → cost_of q plan ≤ cost_of q other

-- for whatever request the plan is cheapest, it costs little
abbrev pub IsSmall : (ExprParts → Type 0) → Query → Tree → Type 0
IsSmall Member q plan =
    (group : KeyParts) (wanted : Request) → Fits q group wanted → IsCheapest Member q group wanted plan
    → cost_of q plan ≤ most_cost * most_nodes group wanted

-- a node costs little
pub node_small : (shape : CostShape) → local_cost shape ≤ most_cost
unfolding local_cost
node_small shape = omega arith

-- two plans for one request are of one group, and as many segments have a share
pub alike : (Member : ExprParts → Type 0) (q : Query) (g : KeyParts) (r : Request) (plan other : Tree)
    → Serves Member q g r plan → Serves Member q g r other
    → ((kid_of q plan).group ≡ (kid_of q other).group) × (class_of (gives q plan).dist ≡ class_of (gives q other).dist)
alike Member q g r plan other x y = (
  x.of_group ∙ sym y.of_group,
  same_class (gives q plan).dist (gives q other).dist r.dist x.satisfies.dist
      y.satisfies.dist,
)

module _ (Member : ExprParts → Type 0) (q : Query) (e : PhysicalExpr) (mode : ℕ) where
  -- the one plan, where no other in its place makes the whole cost less
  pub one_small : (kid : Tree) (gs : List KeyParts) (ws : List Request) → IsSmall Member q kid → IsValid Member q kid
      → AreOf gs (sights q (kid ∷ [])) → KidsServe q (sights q (kid ∷ [])) ws → RequestsFit q gs ws
      → ((other : Tree) → IsValid Member q other → AreOf gs (sights q (other ∷ []))
      → KidsServe q (sights q (other ∷ [])) ws
      → cost_of q (over (nodes.Native e mode) kid) ≤ cost_of q (over (nodes.Native e mode) other))
      → cost_of q kid ≤ most_cost * nodes_below gs
  one_small kid [] ws small valid of_groups serve fit wins = absurd of_groups
  one_small kid (g ∷ gs) [] small valid of_groups serve fit wins = absurd serve
  one_small kid (g ∷ h ∷ gs) (r ∷ ws) small valid of_groups serve fit wins = absurd of_groups.1
  one_small kid (g ∷ []) (r ∷ s ∷ ws) small valid of_groups serve fit wins = absurd serve.1
  one_small kid (g ∷ []) (r ∷ []) small valid of_groups serve fit wins =
      let serves : Serves Member q g r kid = record { valid = valid; of_group = of_groups.0; satisfies = serve.0 } in
      let at_most : (other : Tree) → Serves Member q g r other → cost_of q kid ≤ cost_of q other = λ other also.
      let same = alike Member q g r kid other serves also in
      let cost = ap local_cost (same_native_shape q e mode (kid_of q kid ∷ []) (kid_of q other ∷ [])
      (same.0, same.1, tt)) in
      let less = wins other also.valid (also.of_group, tt) (also.satisfies, tt) in
      omega (arith, cost, less) in
      omega (arith, small g r fit.0 (record { serves = serves; cheapest = at_most }), request_few g r)

  -- the two plans
  pub two_small : (left right : Tree) (gs : List KeyParts) (ws : List Request) → IsSmall Member q left
      → IsSmall Member q right → IsValid Member q left → IsValid Member q right
      → AreOf gs (sights q (left ∷ right ∷ [])) → KidsServe q (sights q (left ∷ right ∷ [])) ws → RequestsFit q gs ws
      → ((a b : Tree) → IsValid Member q a → IsValid Member q b → AreOf gs (sights q (a ∷ b ∷ []))
      → KidsServe q (sights q (a ∷ b ∷ [])) ws
      → cost_of q (two (nodes.Native e mode) left right) ≤ cost_of q (two (nodes.Native e mode) a b))
      → cost_of q left + cost_of q right ≤ most_cost * nodes_below gs
  two_small left right [] ws small small_too valid valid_too of_groups serve fit wins = absurd of_groups
  two_small left right (g ∷ gs) [] small small_too valid valid_too of_groups serve fit wins = absurd serve
  two_small left right (g ∷ []) (r ∷ ws) small small_too valid valid_too of_groups serve fit wins = absurd of_groups.1
  two_small left right (g ∷ h ∷ gs) (r ∷ []) small small_too valid valid_too of_groups serve fit wins = absurd serve.1
  two_small left right (g ∷ h ∷ i ∷ gs) (r ∷ s ∷ ws) small small_too valid valid_too of_groups serve fit wins =
      absurd of_groups.1.1
  two_small left right (g ∷ h ∷ []) (r ∷ s ∷ t ∷ ws) small small_too valid valid_too of_groups serve fit wins =
      absurd serve.1.1
  two_small left right (g ∷ h ∷ []) (r ∷ s ∷ []) small small_too valid valid_too of_groups serve fit wins =
      let first : Serves Member q g r left = record { valid = valid; of_group = of_groups.0; satisfies = serve.0 } in
      let second : Serves Member q h s right =
      record { valid = valid_too; of_group = of_groups.1.0; satisfies = serve.1.0 } in
      let left_most : (other : Tree) → Serves Member q g r other → cost_of q left ≤ cost_of q other = λ other also.
      let same = alike Member q g r left other first also in
      let cost = ap local_cost (same_native_shape q e mode (kid_of q left ∷ kid_of q right ∷ [])
      (kid_of q other ∷ kid_of q right ∷ []) (same.0, same.1, (refl, refl, tt))) in
      let less = wins other right also.valid valid_too (also.of_group, (of_groups.1.0, tt))
      (also.satisfies, (serve.1.0, tt)) in
      omega (arith, cost, less) in
      let right_most : (other : Tree) → Serves Member q h s other → cost_of q right ≤ cost_of q other = λ other also.
      let same = alike Member q h s right other second also in
      let cost = ap local_cost (same_native_shape q e mode (kid_of q left ∷ kid_of q right ∷ [])
      (kid_of q left ∷ kid_of q other ∷ []) (refl, refl, (same.0, same.1, tt))) in
      let less = wins left other valid also.valid (of_groups.0, (also.of_group, tt)) (serve.0, (also.satisfies, tt)) in
      omega (arith, cost, less) in
      omega (
        arith,
        small g r fit.0 (record { serves = first; cheapest = left_most }),
        small_too h s fit.1.0 (record { serves = second; cheapest = right_most }),
        request_few g r,
        request_few h s,
      )
