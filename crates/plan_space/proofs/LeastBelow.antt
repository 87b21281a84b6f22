-- Least plans below a node do as well as the plans that stand there.
use Rattle.std.proofs.Common.{ℕ, List, [], ◌∷◌, inl, inr, sym, ap, ◌∙◌, subst, arith}
use Rattle.std.specs.Prelude.{Option, Some, None}
use Rattle.std.specs.Bool.{⊤}
use Rattle.query_core.specs.declared.query.Query.{Query}
use Rattle.query_core.specs.declared.words.KeyParts.{KeyParts}
use Rattle.query_core.specs.declared.expressions.ExprParts.{ExprParts}
use Rattle.query_core.specs.declared.expressions.PhysicalExpr.{PhysicalExpr}
use Rattle.cost_units.specs.Cost.{local_cost}
use Rattle.request_props.specs.declared.request.Request.{Request}
use Rattle.plan_space.specs.Nodes.{Tree, leaf, over, two}
use Rattle.plan_space.specs.declared.nodes.NodeKind.{NodeKind}
use Rattle.plan_space.specs.declared.nodes.NodeKind.TheVariants as nodes
use Rattle.plan_space.specs.declared.nodes.Enforcer.{Enforcer}
use Rattle.plan_space.specs.Gives.{kid_of, gives}
use Rattle.plan_space.specs.Alternatives.{KidsServe}
use Rattle.plan_space.specs.Enforcers.{EnforcedBy}
use Rattle.plan_space.specs.Least.{Serves, IsLeast}
use Rattle.plan_space.specs.Order.{IsAtMost}
use Rattle.plan_space.specs.Choices.{AreLeast, IsNodeOver, Beats, BeatsEnforcer, LacksOne}
use Rattle.plan_space.specs.Laws.{AreOf}
use Rattle.plan_space.proofs.Plans.{IsAtMost-trans, kid_at_most, over_at_most, two_at_most}
use Rattle.plan_space.proofs.Exchange.{Replaces, same_class, same_shape}
use Rattle.plan_space.proofs.Kids.{sights, AreValid, AreAlike, same_native_shape}

-- each plan is at most the other at its place
abbrev pub AreAtMost : Query → List Tree → List Tree → Type 0
AreAtMost q [] [] = ⊤
AreAtMost q [] (other ∷ others) = ⊥
AreAtMost q (plan ∷ plans) [] = ⊥
AreAtMost q (plan ∷ plans) (other ∷ others) = IsAtMost q plan other × AreAtMost q plans others

pub Beats-over : (q : Query) (best : Option Tree) (node : NodeKind) (kid : Tree) → Beats q best kid
    → Beats q best (over node kid)
Beats-over q None node kid beats = absurd beats
Beats-over q (Some plan) node kid beats = kid_at_most q node plan kid beats

pub Beats-then : (q : Query) (best : Option Tree) (plan other : Tree) → Beats q best plan → IsAtMost q plan other
    → Beats q best other
Beats-then q None plan other beats most = absurd beats
Beats-then q (Some best) plan other beats most = IsAtMost-trans q best plan other beats most

-- a least plan is at most each plan for its request
abbrev pub LeastAreAtMost : (ExprParts → Type 0) → Query → Type 0
LeastAreAtMost Member q = (group : KeyParts) (wanted : Request) (plan other : Tree) → IsLeast Member q group wanted plan
    → Serves Member q group wanted other → IsAtMost q plan other

-- a node over least plans beats the same node over plans that they are at most
module _ (q : Query) (best : Option Tree) (e : PhysicalExpr) (mode : ℕ) where
  pub at_leaf : (plans : List Tree) (plan : Tree) → AreAtMost q plans [] → IsNodeOver (nodes.Native e mode) plans plan
      → Beats q best plan
      → Beats q best (leaf (nodes.Native e mode))
  at_leaf [] plan at_most over_plans beats = subst (Beats q best) over_plans beats
  at_leaf (first ∷ plans) plan at_most over_plans beats = absurd at_most

  pub at_one : (kid : Tree) (plans : List Tree) (plan : Tree) → AreAtMost q plans (kid ∷ [])
      → AreAlike (sights q plans) (kid_of q kid ∷ [])
      → IsNodeOver (nodes.Native e mode) plans plan → Beats q best plan
      → Beats q best (over (nodes.Native e mode) kid)
  at_one kid [] plan at_most alike over_plans beats = absurd at_most
  at_one kid (first ∷ []) plan at_most alike over_plans beats =
      let shape = same_native_shape q e mode (kid_of q first ∷ []) (kid_of q kid ∷ []) alike in
      let cost = ap local_cost shape in
      Beats-then q best (over (nodes.Native e mode) first) (over (nodes.Native e mode) kid)
      (subst (Beats q best) over_plans beats)
      (over_at_most q (nodes.Native e mode) (nodes.Native e mode) first kid (omega arith) (omega arith) at_most.0)
  at_one kid (first ∷ other ∷ others) plan at_most alike over_plans beats = absurd at_most.1

  pub at_two : (left right : Tree) (plans : List Tree) (plan : Tree) → AreAtMost q plans (left ∷ right ∷ [])
      → AreAlike (sights q plans) (kid_of q left ∷ kid_of q right ∷ [])
      → IsNodeOver (nodes.Native e mode) plans plan → Beats q best plan
      → Beats q best (two (nodes.Native e mode) left right)
  at_two left right [] plan at_most alike over_plans beats = absurd at_most
  at_two left right (first ∷ []) plan at_most alike over_plans beats = absurd at_most.1
  at_two left right (first ∷ second ∷ []) plan at_most alike over_plans beats =
      let shape = same_native_shape q e mode (kid_of q first ∷ kid_of q second ∷ [])
      (kid_of q left ∷ kid_of q right ∷ []) alike in
      let cost = ap local_cost shape in
      Beats-then q best (two (nodes.Native e mode) first second) (two (nodes.Native e mode) left right)
      (subst (Beats q best) over_plans beats)
      (two_at_most q (nodes.Native e mode) first left second right (omega arith) at_most.0 at_most.1.0)
  at_two left right (first ∷ second ∷ other ∷ others) plan at_most alike over_plans beats = absurd at_most.1.1

module _ (Member : ExprParts → Type 0) (q : Query) (at_most_each : LeastAreAtMost Member q) where
  -- where some child has no plan, no kids serve
  pub lacks_kids : (groups : List KeyParts) (wishes : List Request) (kids : List Tree) → AreOf groups (sights q kids)
      → KidsServe q (sights q kids) wishes
      → AreValid Member q kids → LacksOne Member q groups wishes → ⊥
  lacks_kids [] wishes kids of_groups serve valid lacks = absurd lacks
  lacks_kids (g ∷ groups) [] kids of_groups serve valid lacks = absurd lacks
  lacks_kids (g ∷ groups) (wanted ∷ wishes) [] of_groups serve valid lacks = absurd of_groups
  lacks_kids (g ∷ groups) (wanted ∷ wishes) (kid ∷ kids) of_groups serve valid (inl none) =
      none kid (record { valid = valid.0; of_group = of_groups.0; satisfies = serve.0 })
  lacks_kids (g ∷ groups) (wanted ∷ wishes) (kid ∷ kids) of_groups serve valid (inr lacks) =
      lacks_kids groups wishes kids of_groups.1 serve.1 valid.1 lacks

  -- least plans are at most the kids that serve, and are seen alike
  pub least_kids : (groups : List KeyParts) (wishes : List Request) (plans kids : List Tree)
      → AreLeast Member q groups wishes plans
      → AreOf groups (sights q kids) → KidsServe q (sights q kids) wishes → AreValid Member q kids
      → AreAtMost q plans kids × AreAlike (sights q plans) (sights q kids)
  least_kids [] [] [] [] least of_groups serve valid = (tt, tt)
  least_kids [] [] [] (kid ∷ kids) least of_groups serve valid = absurd of_groups
  least_kids [] [] (plan ∷ plans) kids least of_groups serve valid = absurd least
  least_kids [] (wanted ∷ wishes) plans kids least of_groups serve valid = absurd least
  least_kids (g ∷ groups) [] plans kids least of_groups serve valid = absurd least
  least_kids (g ∷ groups) (wanted ∷ wishes) [] kids least of_groups serve valid = absurd least
  least_kids (g ∷ groups) (wanted ∷ wishes) (plan ∷ plans) [] least of_groups serve valid = absurd of_groups
  least_kids (g ∷ groups) (wanted ∷ wishes) (plan ∷ plans) (kid ∷ kids) least of_groups serve valid =
      let rest = least_kids groups wishes plans kids least.1 of_groups.1 serve.1 valid.1 in (
        (
          at_most_each g wanted plan kid least.0
              (record { valid = valid.0; of_group = of_groups.0; satisfies = serve.0 }),
          rest.0,
        ),
        (
          least.0.serves.of_group ∙ sym of_groups.0,
          same_class (gives q plan).dist (gives q kid).dist wanted.dist least.0.serves.satisfies.dist serve.0.dist,
          rest.1,
        ),
      )

  module _ (group : KeyParts) (wanted : Request) (best : Option Tree) where
    -- an enforcer of the request over the least plan does as well as the one that it replaces
    pub at_replaced : (node : Enforcer) (kid : Tree) (e : EnforcedBy) → Replaces q wanted node (kid_of q kid) e
        → Serves Member q group e.below kid
        → BeatsEnforcer Member q group e best → Beats q best (over (nodes.Enforcer node) kid)
    at_replaced node kid e replaces serves (inl (plan, below, beats)) =
        let class = same_class (gives q plan).dist (gives q kid).dist e.below.dist below.serves.satisfies.dist
        serves.satisfies.dist in
        let of_group = below.serves.of_group ∙ sym serves.of_group in
        let shape = same_shape q e.node (kid_of q plan) (kid_of q kid) of_group class in
        let same_cost = ap local_cost shape in
        let cost = replaces.cost in
        Beats-then q best (over (nodes.Enforcer e.node) plan) (over (nodes.Enforcer node) kid) beats
        (over_at_most q (nodes.Enforcer e.node) (nodes.Enforcer node) plan kid replaces.number (omega arith)
        (at_most_each group e.below plan kid below serves))
    at_replaced node kid e replaces serves (inr none) = absurd (none kid serves)
