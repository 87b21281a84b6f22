-- What enforcers ask for, and the choices that they make.
use Rattle.std.proofs.Common.{◌≡◌, ℕ, ◌<◌, ◌≤◌, ◌+◌, refl, subst, sym, ◌∙◌, inl, inr, ⊎_elim, arith}
use Rattle.std.specs.Prelude.{◌^◌, [], ◌∷◌, slice_get, Option, None, Some}
use Rattle.query_core.specs.Keys.{IsGroup}
use Rattle.query_core.specs.declared.query.Query.{Query}
use Rattle.query_core.specs.declared.words.KeyParts.{KeyParts}
use Rattle.xform_rules.specs.Closure.{IsMember}
use Rattle.cost_units.specs.Cost.{local_cost}
use Rattle.request_props.specs.Numbered.{IsProps}
use Rattle.request_props.specs.declared.props.Props.{Props}
use Rattle.request_props.specs.declared.request.Request.{Request}
use Rattle.request_props.specs.Fitting.{Fits}
use Rattle.plan_space.specs.declared.nodes.Enforcer.{Enforcer}
use Rattle.plan_space.specs.declared.nodes.NodeKind.TheVariants as nodes
use Rattle.plan_space.specs.Nodes.{node_number, Tree, over}
use Rattle.plan_space.specs.Gives.{kid_of}
use Rattle.plan_space.specs.Cost.{shape_of, most_of_all}
use Rattle.plan_space.specs.Enforcers.{EnforcedBy, enforcers_of, Among}
use Rattle.plan_space.specs.Choices.{Beats, BeatsEnforcer, enforced_choice}
use Rattle.plan_space.proofs.Enforcers.{among_at, first_or_second}
use Rattle.plan_space.specs.Laws.{ChoicesServe, EnforcersAskWhatFits, LeastCostsFit}
use Rattle.plan_tree.proofs.Kept.{enforcer_in_range}
use Rattle.plan_tree.proofs.NodeNumbers.{enforcer_small}
use Rattle.plan_tree.specs.declared.node.Node.{Node}
use Rattle.plan_tree.specs.Nodes as kinds
use Rattle.plan_tree.specs.Costs.{IsCostAmong}
use Rattle.plan_search.specs.declared.kept_plans.KeptPlans.{KeptPlans}
use Rattle.plan_search.specs.declared.choice.KidPlans.{KidPlans}
use Rattle.plan_search.specs.declared.choice.Choice.{Choice}
use Rattle.plan_search.specs.Places.{place_of}
use Rattle.plan_search.specs.KeptPlans.{IsAnswered, AreAnswered, kept_at, cost_at, IsPlanAt}
use Rattle.plan_search.specs.BestSoFar.{IsChosen, choice_over, cheaper_of, GoesOverPlace, GoesOverEnforcers}
use Rattle.plan_search.specs.BestSoFar.{BeatsPlace, BeatsEnforcers, number_at_place}
use Rattle.plan_search.proofs.EnforcerNumbers.{next_number_at, two_numbers}
use Rattle.plan_search.proofs.RequestPlaces.{enforcer_before}
use Rattle.plan_search.proofs.Answered.{none_case, some_case, cost_small}
use Rattle.plan_search.proofs.Scanning.{IsOrder, IsStable, goes_on, goes_as, goes_to, goes_from, goes_not, goes_by_one}
use Rattle.plan_search.proofs.Scanning.{enforcer_stable}

-- what an enforcer for the request asks for comes before it, and the enforcer has a number of its own
pub record IsBelow (q : Query) (group : KeyParts) (wanted : Request) (e : EnforcedBy) : Type 0 where
  pub place : place_of group e.below < place_of group wanted
  pub in_range : kinds.EnforcerInRange e.node
  pub small : node_number (nodes.Enforcer e.node) < 2 ^ 56

module _ (q : Query) (props : Props) (is_props : IsProps q props) (group : KeyParts) where
  -- an enforcer that a number names has a number below those of expressions
  named_small : (e : Enforcer) → kinds.EnforcerInRange e → node_number (nodes.Enforcer e) < 2 ^ 56
  named_small e in_range = omega (arith, enforcer_small e in_range)

  pub below_facts : (wanted : Request) (e : EnforcedBy) → Fits q group wanted → Among e (enforcers_of wanted)
      → IsBelow q group wanted e
  below_facts wanted e fits among =
      let in_range = enforcer_in_range q is_props.few_lists is_props.few_orders group wanted e fits among in
      record {
        place = enforcer_before group wanted e among;
        in_range = in_range;
        small = named_small e.node in_range;
      }

module _ (q : Query) (answers : KeptPlans) (group : KeyParts) (wanted : Request) where
  pub place_stable : (n : ℕ) → IsStable q (BeatsPlace q group wanted n)
  place_stable n best other improves beats e is = enforcer_stable q group e best other improves (beats e is)

  -- the two places are all
  pub beats_both : (best : Option Tree) → BeatsPlace q group wanted 0 best × BeatsPlace q group wanted 1 best
      → BeatsEnforcers q group (enforcers_of wanted) best
  beats_both best beats e among =
      ⊎_elim (λ (first : slice_get (enforcers_of wanted) 0 ≡ Some e). beats.0 e first)
      (λ (second : slice_get (enforcers_of wanted) 1 ≡ Some e). beats.1 e second)
      (first_or_second wanted e among)

  -- both places, one after the other
  pub both_go : (old new newer : Option Choice) → GoesOverPlace q answers group wanted 0 old new
      → GoesOverPlace q answers group wanted 1 new newer
      → GoesOverEnforcers q answers group wanted old newer
  both_go old new newer first second =
      goes_from q answers group wanted 0 (number_at_place wanted 0) (2 ^ 56)
      (BeatsEnforcers q group (enforcers_of wanted)) old newer (omega arith)
      (goes_to q answers group wanted (number_at_place wanted 0) (number_at_place wanted 2) (2 ^ 56)
      (BeatsEnforcers q group (enforcers_of wanted)) old newer (two_numbers wanted)
      (goes_as q answers group wanted (number_at_place wanted 0) (number_at_place wanted 2)
      (λ best. BeatsPlace q group wanted 0 best × BeatsPlace q group wanted 1 best)
      (BeatsEnforcers q group (enforcers_of wanted)) old newer beats_both
      (goes_on q answers group wanted (number_at_place wanted 0) (number_at_place wanted 1) (number_at_place wanted 2)
      (BeatsPlace q group wanted 0) (BeatsPlace q group wanted 1)
      old new newer (place_stable 0) first second)))

  module _ (props : Props) (is_props : IsProps q props) (known : IsGroup q group) (fits : Fits q group wanted)
      (answered : AreAnswered q answers (place_of group wanted))
      (asks : EnforcersAskWhatFits q) (n : ℕ) (e : EnforcedBy) (is_at : slice_get (enforcers_of wanted) n ≡ Some e)
    where
      pub among : Among e (enforcers_of wanted)
      among = among_at (enforcers_of wanted) n e is_at

      pub facts : IsBelow q group wanted e
      facts = below_facts q props is_props group wanted e fits among

      below_fits : Fits q group e.below
      below_fits = asks group wanted e fits among

      pub below_answered : IsAnswered q answers group e.below
      below_answered = answered group e.below known below_fits facts.place

      numbers : (number_at_place wanted n ≡ node_number (nodes.Enforcer e.node))
          × (node_number (nodes.Enforcer e.node) + 1 ≤ number_at_place wanted (n + 1))
      numbers = next_number_at wanted n e (omega (arith, fits.numbered, is_props.few_orders)) is_at facts.small

      only_this : (best : Option Tree) → BeatsEnforcer (IsMember q) q group e best
          → BeatsPlace q group wanted n best
      only_this best beats other is = let same : Some e ≡ Some other = sym is_at ∙ is in let equal : e ≡ other = cc in
          subst (λ x. BeatsEnforcer (IsMember q) q group x best) equal beats

      -- the plan below costs no more than any plan
      pub below_small : LeastCostsFit q → cost_at answers (place_of group e.below) ≤ most_of_all
      below_small costs = cost_small q answers group e.below costs below_fits below_answered

      -- where what it asks for has no plan
      pub lacking_goes : (best : Option Choice) → kept_at answers (place_of group e.below) ≡ None
          → GoesOverPlace q answers group wanted n best best
      lacking_goes best none =
          goes_not q answers group wanted (number_at_place wanted n) (number_at_place wanted (n + 1))
          (BeatsPlace q group wanted n) best (omega (arith, numbers.0, numbers.1))
          (λ tree. only_this tree (inr (none_case q answers group e.below below_answered none)))

      -- the enforcer is offered over the plan for what it asks
      pub enforcer_goes : IsOrder q → ChoicesServe q → (node : Node) → kinds.IsNode node (nodes.Enforcer e.node)
          → (local : ℕ) → IsCostAmong q e.node group wanted local
          → (below : KidPlans) (old : Option Choice) → IsPlanAt answers (place_of group e.below) below
          → GoesOverPlace q answers group wanted n old (Some (cheaper_of old (choice_over node local below)))
      enforcer_goes order serve node is_node local cost below old (kept, at, is) =
          let found = some_case q answers group e.below kept below_answered at in
          let kid = found.0 in
          let holds = found.1 in
          let plan = over (nodes.Enforcer e.node) kid in
          let choice = choice_over node local below in
          let local_is : local ≡ local_cost (shape_of q (nodes.Enforcer e.node) (kid_of q kid ∷ [])) =
          cost e among refl (kid_of q kid) holds.least.serves.of_group holds.least.serves.satisfies in
          let chosen : IsChosen q answers group wanted (choice_over node local below) (nodes.Enforcer e.node) plan =
          subst (λ b. IsChosen q answers group wanted (choice_over node local b) (nodes.Enforcer e.node) plan) (sym is)
          (record {
            is_node = is_node;
            built = (kid, facts.place, holds.stands, refl);
            serves = serve group wanted plan fits (enforced_choice e kid among holds.least refl);
            cost = omega (arith, local_is, holds.cost);
          }) in
          goes_from q answers group wanted (number_at_place wanted n) (node_number (nodes.Enforcer e.node))
          (number_at_place wanted (n + 1)) (BeatsPlace q group wanted n) old (Some (cheaper_of old choice))
          (omega (arith, numbers.0))
          (goes_to q answers group wanted (node_number (nodes.Enforcer e.node))
          (node_number (nodes.Enforcer e.node) + 1)
          (number_at_place wanted (n + 1)) (BeatsPlace q group wanted n) old (Some (cheaper_of old choice))
          numbers.1
          (goes_as q answers group wanted (node_number (nodes.Enforcer e.node))
          (node_number (nodes.Enforcer e.node) + 1)
          (λ best. Beats q best plan) (BeatsPlace q group wanted n) old (Some (cheaper_of old choice))
          (λ best beats. only_this best (inl (kid, holds.least, beats)))
          (goes_by_one q answers group wanted order (node_number (nodes.Enforcer e.node)) (nodes.Enforcer e.node) choice
          plan old chosen refl)))
