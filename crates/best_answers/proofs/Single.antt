-- The best of one node: what it costs over the least plans of what it asks.
use Rattle.std.proofs.Common.{◌≡◌, ℕ, ◌+◌, ◌≤◌, inl, inr, refl, ap, sym, ◌∙◌, subst, arith}
use Rattle.std.specs.Prelude.{List, [], ◌∷◌, Option, None, Some, option_map, IfSome}
use Rattle.query_core.specs.Expressions.{expr_of, physical_children}
use Rattle.query_core.specs.declared.query.Query.{Query}
use Rattle.query_core.specs.declared.words.KeyParts.{KeyParts}
use Rattle.query_core.specs.declared.expressions.PhysicalExpr.{PhysicalExpr}
use Rattle.xform_rules.specs.Closure.{IsMember}
use Rattle.cost_units.specs.Cost.{local_cost}
use Rattle.request_props.specs.declared.request.Request.{Request}
use Rattle.request_props.specs.Fitting.{Fits}
use Rattle.plan_space.specs.Nodes.{Tree, over}
use Rattle.plan_space.specs.declared.nodes.NodeKind.TheVariants as nodes
use Rattle.plan_space.specs.declared.lines.Line.{Line}
use Rattle.plan_space.specs.Gives.{kid_of}
use Rattle.plan_space.specs.Alternatives.{IsAlternative, asked_of}
use Rattle.plan_space.specs.Enforcers.{EnforcedBy, enforcers_of, Among}
use Rattle.plan_space.specs.Cost.{cost_of, shape_of, most_of_all}
use Rattle.plan_space.specs.Least.{IsAnswer, IsLeast}
use Rattle.plan_space.specs.Laws.{RequestsFit, ChoiceCostsFit}
use Rattle.plan_space.specs.Choices.{groups_of, AreLeast, enforced_choice, native_choice}
use Rattle.plan_space.specs.Choices.{BeatsEnforcer, BeatsLine, BeatsMode}
use Rattle.plan_tree.specs.Costs.{IsNativeCost, IsEnforcerCost}
use Rattle.plan_tree.specs.Seen.{root_node}
use Rattle.best_answers.specs.Nodes.{one_node, all_nodes}
use Rattle.best_answers.specs.Answers.{pair, answer_of, costs_below, best_over}
use Rattle.best_answers.specs.Best.{IsChoiceIn, IsLeastIn, IsBest, AreBest}
use Rattle.best_answers.specs.Laws.{BestIsLeast}
use Rattle.best_answers.specs.declared.best.Best.{Best}
use Rattle.best_answers.proofs.Roots.{root_over}
use Rattle.best_answers.proofs.OneChoice.{same_enforcer, same_line}
use Rattle.best_answers.proofs.Least.{AreOrdered}
use Rattle.best_answers.proofs.Below.{costs_of, sights, least_of, least_serve, IsMadeOver, node_made, best_below}

-- ---- an enforcer

module _ (q : Query) (group : KeyParts) (wanted : Request) (e : EnforcedBy) (among : Among e (enforcers_of wanted))
  where
    -- the enforcer is the only node of the set
    only_enforcer : (plan : Option Tree) → IsChoiceIn q group wanted (one_node (nodes.Enforcer e.node)) plan
        → BeatsEnforcer (IsMember q) q group e plan
        → IsLeastIn q group wanted (one_node (nodes.Enforcer e.node)) plan
    only_enforcer plan choice beats = record {
      choice = choice;
      enforcers = λ f among_too within.
          let node : f.node ≡ e.node = cc in
          subst (λ (x : EnforcedBy). BeatsEnforcer (IsMember q) q group x plan)
          (sym (same_enforcer wanted e f among among_too node)) beats;
      members = λ f mode member of_group within. cc;
    }

    module _ (order : AreOrdered q) (local : ℕ) (cost : IsEnforcerCost q e.node group e.below local) where
      over_plan : (kid : Tree) → IsLeast (IsMember q) q group e.below kid
          → answer_of q (over (nodes.Enforcer e.node) kid) ≡ pair (local + (cost_of q kid + 0)) (nodes.Enforcer e.node)
      over_plan kid least =
          let local_is : local ≡ local_cost (shape_of q (nodes.Enforcer e.node) (kid_of q kid ∷ [])) =
          cost (kid_of q kid) least.serves.of_group least.serves.satisfies in
          ap (λ c. pair c (nodes.Enforcer e.node)) (omega (arith, local_is))

      enforcer_by : (plan : Option Tree) → IsAnswer (IsMember q) q group e.below plan
          → IsBest q group wanted (one_node (nodes.Enforcer e.node))
          (best_over local (nodes.Enforcer e.node) (costs_below (option_map (answer_of q) plan ∷ [])))
      enforcer_by None none = (None, only_enforcer None tt (inr none), refl)
      enforcer_by (Some kid) least = (
        Some (over (nodes.Enforcer e.node) kid),
        only_enforcer (Some (over (nodes.Enforcer e.node) kid)) (enforced_choice e kid among least refl, refl)
            (inl (kid, least, order.itself (over (nodes.Enforcer e.node) kid))),
        ap (λ answer. Some answer) (sym (over_plan kid least)),
      )

      -- the enforcer over the best of what it asks
      pub enforcer_best : BestIsLeast q → Fits q group e.below → (answer : Option Best)
          → IsBest q group e.below all_nodes answer
          → IsBest q group wanted (one_node (nodes.Enforcer e.node))
          (best_over local (nodes.Enforcer e.node) (costs_below (answer ∷ [])))
      enforcer_best best_least fits answer best =
          let found = best_least group e.below answer fits best in
          subst (λ a. IsBest q group wanted (one_node (nodes.Enforcer e.node))
          (best_over local (nodes.Enforcer e.node) (costs_below (a ∷ [])))) (sym found.3)
          (enforcer_by found.0 found.2)

-- ---- an expression in a mode

module _ (q : Query) (e : PhysicalExpr) (mode : ℕ) (line : Line) (wanted : Request)
    (alternative : IsAlternative q e wanted mode line) where
  -- the expression in the mode is the only node of the set
  only_mode : (plan : Option Tree) → IsChoiceIn q e.group wanted (one_node (nodes.Native e mode)) plan
      → BeatsLine (IsMember q) q e mode line wanted plan
      → IsLeastIn q e.group wanted (one_node (nodes.Native e mode)) plan
  only_mode plan choice beats = record {
    choice = choice;
    enforcers = λ f among within. cc;
    members = λ f other member of_group within. beats_each f other within;
  }
    where
      beats_each : (f : PhysicalExpr) (other : ℕ) → nodes.Native f other ≡ nodes.Native e mode
          → BeatsMode (IsMember q) q wanted f other plan
      beats_each f other within =
          let expr : e ≡ f = cc in
          let mode_is : mode ≡ other = cc in
          let here : BeatsMode (IsMember q) q wanted e mode plan = λ l also.
          subst (λ m. BeatsLine (IsMember q) q e mode m wanted plan)
          (sym (same_line q e wanted mode line l alternative also)) beats in
          subst (λ m. BeatsMode (IsMember q) q wanted f m plan) mode_is
          (subst (λ x. BeatsMode (IsMember q) q wanted x mode plan) expr here)

  module _ (order : AreOrdered q) (member : IsMember q (expr_of e)) (local : ℕ)
      (cost : IsNativeCost q e mode wanted local) where
    over_kids : (kids : List Tree) (plan : Tree)
        → AreLeast (IsMember q) q (groups_of (physical_children e.operator)) (asked_of line wanted) kids
        → IsMadeOver q (nodes.Native e mode) kids plan
        → answer_of q plan ≡ pair (local + costs_of q kids) (nodes.Native e mode)
    over_kids kids plan least made =
        let groups = groups_of (physical_children e.operator) in
        let local_is : local ≡ local_cost (shape_of q (nodes.Native e mode) (sights q kids)) =
        cost line (sights q kids) alternative (least_of q groups (asked_of line wanted) kids least)
        (least_serve q groups (asked_of line wanted) kids least) in
        let whole : cost_of q plan ≡ local + costs_of q kids = omega (arith, local_is, made.cost) in
        let root = root_over (nodes.Native e mode) kids plan made.is in
        ap (λ c. pair c (root_node plan)) whole ∙ ap (pair (local + costs_of q kids)) root

    -- the expression over the best of what its line asks
    pub mode_best : BestIsLeast q → RequestsFit q (groups_of (physical_children e.operator)) (asked_of line wanted)
        → (answers : List (Option Best))
        → AreBest q (groups_of (physical_children e.operator)) (asked_of line wanted) answers
        → IsBest q e.group wanted (one_node (nodes.Native e mode))
        (best_over local (nodes.Native e mode) (costs_below answers))
    mode_best best_least fit answers best =
        elim (best_below q best_least (groups_of (physical_children e.operator)) (asked_of line wanted) answers fit
        best) [
          | inl (kids, least, costs) ↦
              let made = node_made q (nodes.Native e mode) (physical_children e.operator) (asked_of line wanted) kids
              least in
              let plan = made.0 in
              let root = root_over (nodes.Native e mode) kids plan made.1.is in (
                Some plan,
                only_mode (Some plan) (native_choice e mode line kids member refl alternative least made.1.is, root)
                    (inl (kids, plan, least, made.1.is, order.itself plan)),
                ap (best_over local (nodes.Native e mode)) costs
                    ∙ ap (λ answer. Some answer) (sym (over_kids kids plan least made.1)),
              )
          | inr (lacks, none) ↦ (None, only_mode None tt (inr lacks), ap (best_over local (nodes.Native e mode)) none)
        ]

  -- what the answers below cost together costs no more than any plan
  pub room_below : BestIsLeast q → ChoiceCostsFit q → IsMember q (expr_of e) → Fits q e.group wanted
      → RequestsFit q (groups_of (physical_children e.operator)) (asked_of line wanted)
      → (answers : List (Option Best)) → AreBest q (groups_of (physical_children e.operator)) (asked_of line wanted)
      answers → IfSome (costs_below answers) (λ below. below ≤ most_of_all)
  room_below best_least fit_costs member fits fit answers best =
      elim (best_below q best_least (groups_of (physical_children e.operator))
      (asked_of line wanted) answers fit best) [
        | inl (kids, least, costs) ↦
            let made = node_made q (nodes.Native e mode) (physical_children e.operator) (asked_of line wanted) kids
            least in
            let most = fit_costs e.group wanted made.0 fits
            (native_choice e mode line kids member refl alternative least made.1.is) in
            let few : costs_of q kids ≤ most_of_all = omega (arith, most, made.1.cost) in
            subst (λ found. IfSome found (λ below. below ≤ most_of_all)) (sym costs) few
        | inr (lacks, none) ↦ subst (λ found. IfSome found (λ below. below ≤ most_of_all)) (sym none) tt
      ]
