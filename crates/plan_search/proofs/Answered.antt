-- What stands at a request that is answered.
use Rattle.std.proofs.Common.{◌≡◌, ◌<◌, ◌≤◌, subst, sym, ◌∙◌, ap, arith}
use Rattle.std.specs.Prelude.{None, Some}
use Rattle.std.specs.Option.{option_and_then, option_map_or}
use Rattle.query_core.specs.Keys.{key_number, IsGroup}
use Rattle.query_core.specs.declared.query.Query.{Query}
use Rattle.query_core.specs.declared.words.KeyParts.{KeyParts}
use Rattle.xform_rules.specs.Closure.{IsMember}
use Rattle.request_props.specs.Numbered.{IsProps}
use Rattle.request_props.specs.declared.props.Props.{Props}
use Rattle.request_props.specs.declared.request.Request.{Request}
use Rattle.request_props.specs.Fitting.{Fits}
use Rattle.plan_space.specs.Nodes.{Tree}
use Rattle.plan_space.specs.Least.{HasNoPlan}
use Rattle.plan_search.specs.declared.kept_plans.KeptPlans.{KeptPlans}
use Rattle.plan_search.specs.declared.choice.Choice.{Choice}
use Rattle.plan_space.specs.Cost.{most_of_all}
use Rattle.plan_space.specs.Laws.{LeastCostsFit}
use Rattle.plan_search.specs.Places.{place_of}
use Rattle.plan_search.specs.KeptPlans.{IsKept, IsAnswered, AreAnswered, kept_at, cost_at}
use Rattle.plan_search.proofs.RequestPlaces.{request_small}

module _ (q : Query) (answers : KeptPlans) where
  module _ (g : KeyParts) (r : Request) where
    -- there is no plan, and none stands there
    pub none_case : IsAnswered q answers g r → kept_at answers (place_of g r) ≡ None → HasNoPlan (IsMember q) q g r
    none_case (None, at, is) none = is
    none_case (Some kept, at, is) none = let never : Some kept ≡ None =
        sym (ap (λ a. option_and_then (λ answer. answer) a) at) ∙ none in cc

    -- what stands there is a least plan
    pub some_case : (kept : Choice) → IsAnswered q answers g r → kept_at answers (place_of g r) ≡ Some kept
        → (tree : Tree) × IsKept q answers g r kept tree
    some_case kept (None, at, is) some = let never : None ≡ Some kept =
        sym (ap (λ a. option_and_then (λ answer. answer) a) at) ∙ some in cc
    some_case kept (Some other, at, is) some =
        let same : Some other ≡ Some kept = sym (ap (λ a. option_and_then (λ answer. answer) a) at) ∙ some in
        let equal : other ≡ kept = cc in
        (is.0, subst (λ k. IsKept q answers g r k is.0) equal is.1)

    -- what stands there costs no more than any plan
    pub cost_small : LeastCostsFit q → Fits q g r → IsAnswered q answers g r
        → cost_at answers (place_of g r) ≤ most_of_all
    cost_small costs fits (None, at, is) = subst
        (λ a. option_map_or (λ kept. kept.cost) (option_and_then (λ answer. answer) a) 0 ≤ most_of_all) (sym at)
        (omega arith)
    cost_small costs fits (Some kept, at, is) =
        subst (λ a. option_map_or (λ k. k.cost) (option_and_then (λ answer. answer) a) 0 ≤ most_of_all) (sym at)
        (omega (arith, is.1.cost, costs g r is.0 fits is.1.least))

  module _ (props : Props) (is_props : IsProps q props) (group : KeyParts) (wanted : Request)
      (answered : AreAnswered q answers (place_of group wanted)) where
    -- a request of a group with a lesser key comes before
    pub kid_before : (g : KeyParts) (r : Request) → Fits q g r → key_number g < key_number group
        → place_of g r < place_of group wanted
    kid_before g r fits less = omega (arith, less, request_small q g props r is_props fits)

    -- and is answered
    pub kid_answered : (g : KeyParts) (r : Request) → IsGroup q g → Fits q g r → key_number g < key_number group
        → IsAnswered q answers g r
    kid_answered g r known fits less = answered g r known fits (kid_before g r fits less)
