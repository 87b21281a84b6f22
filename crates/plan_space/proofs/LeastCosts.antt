-- A plan that costs no more than any other for its request costs little, and so do a least plan and a choice.
use Rattle.std.proofs.Common.{◌≡◌, ℕ, ◌≤◌, ◌+◌, ◌*◌, List, [], ◌∷◌, inl, inr, sym, ap, subst, arith}
use Rattle.query_core.specs.Expressions.{expr_of, physical_children, IsCandidate, IsPacked}
use Rattle.query_core.specs.declared.query.Query.{Query}
use Rattle.query_core.specs.declared.words.KeyParts.{KeyParts}
use Rattle.query_core.specs.declared.expressions.ExprParts.{ExprParts}
use Rattle.query_core.specs.declared.expressions.PhysicalExpr.{PhysicalExpr}
use Rattle.query_core.specs.Keys.{IsGroupInRange}
use Rattle.cost_units.specs.Cost.{local_cost, most_cost}
use Rattle.request_props.specs.Satisfied.{Satisfies}
use Rattle.request_props.specs.declared.request.Request.{Request}
use Rattle.request_props.specs.Fitting.{Fits}
use Rattle.plan_space.specs.Nodes.{Tree, leaf, over, two}
use Rattle.plan_space.specs.declared.nodes.NodeKind.TheVariants as nodes
use Rattle.plan_space.specs.declared.nodes.Enforcer.{Enforcer}
use Rattle.plan_space.specs.declared.lines.Line.{Line}
use Rattle.plan_space.specs.Lines.{line_of}
use Rattle.plan_space.specs.Gives.{kid_of, gives, native_gives}
use Rattle.plan_space.specs.Valid.{NativeFits, IsValid}
use Rattle.plan_space.specs.Cost.{cost_of, most_of_all, native_shape, enforcer_shape}
use Rattle.plan_space.specs.Alternatives.{IsAlternative, asked_of, KidsServe}
use Rattle.plan_space.specs.Least.{Serves, IsLeast}
use Rattle.plan_space.specs.Choices.{groups_of, AreLeast, IsNodeOver, IsChoice, enforced_choice, native_choice}
use Rattle.plan_space.specs.Laws.{GivenFits, KidsFit, AreOf, RequestsFit, SatisfactionSplits, SatisfactionJoins}
use Rattle.plan_space.specs.Laws.{AsksWhatFits}
use Rattle.plan_space.proofs.Exchange.{IsOrdered, same_shape, exchange}
use Rattle.plan_space.proofs.Kids.{sights, AreValid, kids_of_children}
use Rattle.plan_space.proofs.Serving.{enforcer_serves}
use Rattle.plan_space.proofs.LeastBelow.{LeastAreAtMost}
use Rattle.plan_space.proofs.Plans.{at_most_costs}
use Rattle.plan_space.proofs.NodeCounts.{group_nodes, most_nodes, nodes_below, request_few, some_nodes, all_few}
use Rattle.plan_space.proofs.Children.{children_lesser}
use Rattle.plan_space.proofs.Below.{enforcer_below}
use Rattle.plan_space.proofs.Cheapest.{IsSmall, node_small, alike, one_small, two_small}

-- what the plans cost together
abbrev costs_of : Query → List Tree → ℕ
costs_of q [] = 0
costs_of q (plan ∷ plans) = cost_of q plan + costs_of q plans

-- a valid plan is of a group in range
range_of : (Member : ExprParts → Type 0) (q : Query) → ((e : ExprParts) → Member e → IsPacked e) → (plan : Tree)
    → IsValid Member q plan → IsGroupInRange (kid_of q plan).group
range_of Member q packed (leaf (nodes.Native e mode)) valid = (packed (expr_of e) valid.0).group
range_of Member q packed (leaf (nodes.Enforcer node)) valid = absurd valid
range_of Member q packed (over (nodes.Native e mode) kid) valid = (packed (expr_of e) valid.1.0).group
range_of Member q packed (over (nodes.Enforcer node) kid) valid = range_of Member q packed kid valid.0
range_of Member q packed (two (nodes.Native e mode) left right) valid = (packed (expr_of e) valid.2.0).group
range_of Member q packed (two (nodes.Enforcer node) left right) valid = absurd valid.2

-- what is known of all plans of a query
pub record AreKnown (Member : ExprParts → Type 0) (q : Query) : Type 0 where
  pub at_most_each : LeastAreAtMost Member q
  pub ordered : IsOrdered q
  pub candidates : (e : ExprParts) → Member e → IsCandidate q e
  pub packed : (e : ExprParts) → Member e → IsPacked e
  pub given_fits : (plan : Tree) → IsValid Member q plan → GivenFits q (kid_of q plan).group (gives q plan)
  pub splits : SatisfactionSplits q
  pub joins : SatisfactionJoins q
  pub asks : AsksWhatFits q

module _ (Member : ExprParts → Type 0) (q : Query) (known : AreKnown Member q) where
  -- what is known of an expression at the root of a plan
  record IsNativeRoot (e : PhysicalExpr) (mode : ℕ) (kids : List Tree) (group : KeyParts) (wanted : Request) : Type 0
    where
      line : Line
      alternative : IsAlternative q e wanted mode line
      of_children : AreOf (groups_of (physical_children e.operator)) (sights q kids)
      serve : KidsServe q (sights q kids) (asked_of line wanted)
      fit : RequestsFit q (groups_of (physical_children e.operator)) (asked_of line wanted)
      nodes : 1 + nodes_below (groups_of (physical_children e.operator)) ≤ group_nodes group

  kids_fit : (kids : List Tree) → AreValid Member q kids → KidsFit q (sights q kids)
  kids_fit [] valid = tt
  kids_fit (kid ∷ kids) valid = (known.given_fits kid valid.0, kids_fit kids valid.1)

  native_root : (e : PhysicalExpr) (mode : ℕ) (kids : List Tree) (group : KeyParts) (wanted : Request)
      → Fits q group wanted → Member (expr_of e) → e.group ≡ group
      → AreValid Member q kids → NativeFits q e mode (sights q kids)
      → Satisfies q (native_gives q e mode (sights q kids)) wanted → IsNativeRoot e mode kids group wanted
  native_root e mode kids group wanted fits member of_group valid native_fits satisfies =
      let candidate = known.candidates (expr_of e) member in
      let e_fits = subst (λ (g : KeyParts). Fits q g wanted) (sym of_group) fits in
      let split = known.splits e mode (sights q kids) wanted candidate (kids_fit kids valid) e_fits native_fits
      satisfies in
      record {
        line = split.0;
        alternative = split.1;
        of_children = kids_of_children q (physical_children e.operator) (line_of q e mode) (sights q kids) native_fits;
        serve = split.2;
        fit = known.asks e mode split.0 wanted candidate e_fits split.1;
        nodes = subst (λ (g : KeyParts). 1 + nodes_below (groups_of (physical_children e.operator)) ≤ group_nodes g)
            of_group (children_lesser q e.group e.operator candidate.shape).nodes;
      }

  -- an enforcer over a plan of which this is known
  enforcer_small : (node : Enforcer) (kid : Tree) → IsSmall Member q kid
      → IsSmall Member q (over (nodes.Enforcer node) kid)
  enforcer_small node kid small group wanted fits is =
      let serves = is.serves in
      elim (exchange q known.ordered (kid_of q kid) node wanted serves.valid.1 fits.numbered serves.satisfies) [
        | inl satisfies ↦
            let kid_serves : Serves Member q group wanted kid =
            record { valid = serves.valid.0; of_group = serves.of_group; satisfies = satisfies } in
            let at_most : (other : Tree) → Serves Member q group wanted other → cost_of q kid ≤ cost_of q other =
            λ other also. omega (arith, is.cheapest other also) in
            omega (
              arith,
              is.cheapest kid kid_serves,
              small group wanted fits (record { serves = kid_serves; cheapest = at_most }),
            )
        | inr (e, replaces) ↦
            let kid_serves : Serves Member q group e.below kid =
            record { valid = serves.valid.0; of_group = serves.of_group; satisfies = replaces.satisfies } in
            let at_most : (other : Tree) → Serves Member q group e.below other → cost_of q kid ≤ cost_of q other =
            λ other also.
            let same = alike Member q group e.below kid other kid_serves also in
            let cost = ap local_cost (same_shape q e.node (kid_of q kid) (kid_of q other) same.0 same.1) in
            let less = is.cheapest (over (nodes.Enforcer e.node) other)
            (enforcer_serves Member q group other wanted.dist wanted.order e fits replaces.among also) in
            omega (arith, cost, less, replaces.cost) in
            let below = enforcer_below q group wanted e fits replaces.among in
            omega (
              arith,
              small group e.below below.fits (record { serves = kid_serves; cheapest = at_most }),
              below.nodes,
              node_small (enforcer_shape q node (kid_of q kid ∷ [])),
            )
      ]

  -- a cheapest plan costs little
  pub cheapest_small : (plan : Tree) → IsSmall Member q plan
  cheapest_small (leaf (nodes.Native e mode)) group wanted fits is =
      omega (arith, node_small (native_shape q e mode []), some_nodes group)
  cheapest_small (leaf (nodes.Enforcer node)) group wanted fits is = absurd is.serves.valid
  cheapest_small (over (nodes.Enforcer node) kid) group wanted fits is =
      enforcer_small node kid (cheapest_small kid) group wanted fits is
  cheapest_small (over (nodes.Native e mode) kid) group wanted fits is =
      let serves = is.serves in
      let member = serves.valid.1.0 in
      let root = native_root e mode (kid ∷ []) group wanted fits member serves.of_group (serves.valid.0, tt)
      serves.valid.1.1 serves.satisfies in
      let below = one_small Member q e mode kid (groups_of (physical_children e.operator)) (asked_of root.line wanted)
      (cheapest_small kid) serves.valid.0 root.of_children root.serve root.fit
      (λ other valid of_groups serve.
      let joined = known.joins e mode root.line (sights q (other ∷ [])) wanted root.alternative of_groups serve in
      is.cheapest (over (nodes.Native e mode) other)
      (record { valid = (valid, (member, joined.0)); of_group = serves.of_group; satisfies = joined.1 })) in
      omega (arith, below, root.nodes, node_small (native_shape q e mode (kid_of q kid ∷ [])))
  cheapest_small (two (nodes.Enforcer node) left right) group wanted fits is = absurd is.serves.valid.2
  cheapest_small (two (nodes.Native e mode) left right) group wanted fits is =
      let serves = is.serves in
      let member = serves.valid.2.0 in
      let root = native_root e mode (left ∷ right ∷ []) group wanted fits member serves.of_group
      (serves.valid.0, (serves.valid.1, tt)) serves.valid.2.1 serves.satisfies in
      let below = two_small Member q e mode left right (groups_of (physical_children e.operator))
      (asked_of root.line wanted) (cheapest_small left) (cheapest_small right) serves.valid.0 serves.valid.1
      root.of_children root.serve root.fit
      (λ a b valid valid_too of_groups serve.
      let joined = known.joins e mode root.line (sights q (a ∷ b ∷ [])) wanted root.alternative of_groups serve in
      is.cheapest (two (nodes.Native e mode) a b)
      (record {
        valid = (valid, valid_too, (member, joined.0));
        of_group = serves.of_group;
        satisfies = joined.1;
      })) in
      omega (arith, below, root.nodes, node_small (native_shape q e mode (kid_of q left ∷ kid_of q right ∷ [])))

  -- ---- least plans

  least_nodes : (group : KeyParts) (wanted : Request) (plan : Tree) → Fits q group wanted
      → IsLeast Member q group wanted plan → cost_of q plan ≤ most_cost * most_nodes group wanted
  least_nodes group wanted plan fits least = cheapest_small plan group wanted fits (record {
    serves = least.serves;
    cheapest = λ other serves. at_most_costs q plan other (known.at_most_each group wanted plan other least serves);
  })

  -- a least plan costs no more than any may
  pub least_small : (group : KeyParts) (wanted : Request) (plan : Tree) → Fits q group wanted
      → IsLeast Member q group wanted plan → cost_of q plan ≤ most_of_all
  least_small group wanted plan fits least =
      let range = subst IsGroupInRange least.serves.of_group (range_of Member q known.packed plan least.serves.valid) in
      omega (arith, least_nodes group wanted plan fits least, all_few group wanted range)

  least_below : (gs : List KeyParts) (ws : List Request) (plans : List Tree) → RequestsFit q gs ws
      → AreLeast Member q gs ws plans → costs_of q plans ≤ most_cost * nodes_below gs
  least_below [] [] [] fit least = omega arith
  least_below [] [] (plan ∷ plans) fit least = absurd least
  least_below [] (r ∷ ws) plans fit least = absurd least
  least_below (g ∷ gs) [] plans fit least = absurd least
  least_below (g ∷ gs) (r ∷ ws) [] fit least = absurd least
  least_below (g ∷ gs) (r ∷ ws) (plan ∷ plans) fit least =
      omega (arith, least_nodes g r plan fit.0 least.0, request_few g r, least_below gs ws plans fit.1 least.1)

  -- an expression over plans that cost so much together
  node_over_small : (e : PhysicalExpr) (mode : ℕ) (kids : List Tree) (plan : Tree)
      → IsNodeOver (nodes.Native e mode) kids plan → cost_of q plan ≤ most_cost + costs_of q kids
  node_over_small e mode [] plan is = subst (λ t. cost_of q t ≤ most_cost + 0) (sym is)
      (omega (arith, node_small (native_shape q e mode [])))
  node_over_small e mode (kid ∷ []) plan is =
      subst (λ t. cost_of q t ≤ most_cost + (cost_of q kid + 0)) (sym is)
      (omega (arith, node_small (native_shape q e mode (kid_of q kid ∷ []))))
  node_over_small e mode (left ∷ right ∷ []) plan is =
      subst (λ t. cost_of q t ≤ most_cost + (cost_of q left + (cost_of q right + 0))) (sym is)
      (omega (arith, node_small (native_shape q e mode (kid_of q left ∷ kid_of q right ∷ []))))
  node_over_small e mode (left ∷ right ∷ other ∷ others) plan is = absurd is

  -- neither does a choice
  pub choice_small : (group : KeyParts) (wanted : Request) (plan : Tree) → Fits q group wanted
      → IsChoice Member q group wanted plan → cost_of q plan ≤ most_of_all
  choice_small group wanted plan fits (enforced_choice e kid among least is) =
      let below = enforcer_below q group wanted e fits among in
      let range = subst IsGroupInRange least.serves.of_group (range_of Member q known.packed kid least.serves.valid) in
      subst (λ t. cost_of q t ≤ most_of_all) (sym is)
      (omega (
        arith,
        least_nodes group e.below kid below.fits least,
        below.nodes,
        node_small (enforcer_shape q e.node (kid_of q kid ∷ [])),
        all_few group wanted range,
      ))
  choice_small group wanted plan fits (native_choice e mode line kids member of_group alternative least is) =
      let candidate = known.candidates (expr_of e) member in
      let fit = known.asks e mode line wanted candidate (subst (λ (g : KeyParts). Fits q g wanted) (sym of_group) fits)
      alternative in
      omega (
        arith,
        node_over_small e mode kids plan is,
        least_below (groups_of (physical_children e.operator)) (asked_of line wanted) kids fit least,
        (children_lesser q e.group e.operator candidate.shape).nodes,
        all_few e.group wanted (known.packed (expr_of e) member).group,
      )
