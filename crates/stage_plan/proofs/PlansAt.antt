-- The least plans of stages, and of one stage more.
use Rattle.std.proofs.Common.{◌≡◌, ◌⊎◌, inl, inr, ℕ, List, [], ◌∷◌, ◌++◌, Option, None, Some, length}
use Rattle.std.proofs.Common.{arith, refl, sym, ap, subst, ◌∙◌}
use Rattle.std.proofs.lemmas.Option.{slice_get_within}
use Rattle.query_core.specs.declared.query.Query.{Query}
use Rattle.request_props.specs.Numbered.{IsWithinLimits}
use Rattle.plan_space.specs.Nodes.{Tree}
use Rattle.plan_space.specs.Cost.{cost_of}
use Rattle.plan_space.specs.Laws.{LeastIsOne}
use Rattle.plan_space.specs.Least.{IsLess, QueryHasNoPlan}
use Rattle.stage_plan.specs.Stages.{query_in, IsPlanIn}
use Rattle.stage_plan.specs.StagedRuns.{HasCost, HaveNoPlan, IsFirstLeast, IsPlanAt}
use Rattle.query_stage.specs.declared.stage.Stage.{Stage}
use Rattle.stage_plan.proofs.Lists.{get_left, get_last, get_cases}
use Rattle.stage_plan.proofs.Less.{less_not_itself, less_trans, less_than_others}

-- ---- one stage more

module _ (q : Query) (stages : List Stage) (next : Stage) where
  pub at_left : (n : ℕ) (plan : Tree) → IsPlanAt q stages n plan → IsPlanAt q (stages ++ next ∷ []) n plan
  at_left n plan at = record {
    stage = at.stage;
    there = get_left stages (next ∷ []) n at.stage at.there;
    least = at.least;
  }

  pub at_cases : (n : ℕ) (plan : Tree) → IsPlanAt q (stages ++ next ∷ []) n plan
      → IsPlanAt q stages n plan ⊎ ((n ≡ length stages) × IsPlanIn q next plan)
  at_cases n plan at =
      elim (get_cases stages next n at.stage at.there)
      as (λ _. IsPlanAt q stages n plan ⊎ ((n ≡ length stages) × IsPlanIn q next plan)) [
        | inl here ↦ inl (record { stage = at.stage; there = here; least = at.least })
        | inr last ↦ inr (last.0, subst (λ stage. IsPlanIn q stage plan) last.1 at.least)
      ]

pub at_last : (q : Query) (stages rest : List Stage) (next : Stage) (plan : Tree) → IsPlanIn q next plan
    → IsPlanAt q (stages ++ next ∷ rest) (length stages) plan
at_last q stages rest next plan least = record { stage = next; there = get_last stages next rest; least = least }

-- ---- no plan

module _ (q : Query) (stages : List Stage) (next : Stage) (none : HaveNoPlan q stages) where
  pub none_more : QueryHasNoPlan (query_in q next) → HaveNoPlan q (stages ++ next ∷ [])
  none_more no_plan n plan at =
      elim (at_cases q stages next n plan at) as (λ _. ⊥) [
        | inl here ↦ none n plan here
        | inr last ↦ no_plan plan last.1.serves
      ]

-- ---- one least plan

module _ (one : (q : Query) → LeastIsOne q) (q : Query) (limits : IsWithinLimits q) where
  pub one_plan : (stage : Stage) (plan other : Tree) → IsPlanIn q stage plan → IsPlanIn q stage other → other ≡ plan
  one_plan stage plan other least also =
      one (query_in q stage) limits.few_lists limits.few_orders _ _ plan other least also

  pub one_plan_at : (stages : List Stage) (n : ℕ) (plan other : Tree) → IsPlanAt q stages n plan
      → IsPlanAt q stages n other → other ≡ plan
  one_plan_at stages n plan other at also =
      let there = at.there in
      let also_there = also.there in
      let same : at.stage ≡ also.stage = cc in
      one_plan also.stage plan other (subst (λ stage. IsPlanIn q stage plan) same at.least) also.least

  pub one_cost : (stage : Stage) (cost other : Option ℕ) → HasCost q stage cost → HasCost q stage other → other ≡ cost
  one_cost stage None None h k = refl
  one_cost stage None (Some other) h (plan, least, costs) = absurd (h plan least.serves)
  one_cost stage (Some cost) None (plan, least, costs) k = absurd (k plan least.serves)
  one_cost stage (Some cost) (Some other) (plan, least, costs) (also, its, too) =
      let same = one_plan stage plan also least its in
      ap Some (too ∙ ap (cost_of q) same ∙ sym costs)

  -- ---- the least so far

  module _ (stages : List Stage) (next : Stage) where
    -- it stays where the plan of the next stage isn't less
    pub first_stays : (n : ℕ) (plan : Tree) → IsFirstLeast q stages n plan
        → ((other : Tree) → IsPlanIn q next other → IsLess q other plan → ⊥)
        → IsFirstLeast q (stages ++ next ∷ []) n plan
    first_stays n plan first not_less = record {
      its = at_left q stages next n plan first.its;
      none_less = λ m other at.
          elim (at_cases q stages next m other at) as (λ _. IsLess q other plan → ⊥) [
            | inl here ↦ first.none_less m other here
            | inr last ↦ not_less other last.1
          ];
      earlier_greater = λ m other at earlier.
          elim (at_cases q stages next m other at) as (λ _. IsLess q plan other) [
            | inl here ↦ first.earlier_greater m other here earlier
            | inr last ↦
                let within = slice_get_within stages n first.its.stage first.its.there in absurd (omega (arith, last.0))
          ];
    }

    -- the plan of the next stage is it where it is less
    pub first_changes : (n : ℕ) (plan other : Tree) → IsFirstLeast q stages n plan → IsPlanIn q next other
        → IsLess q other plan → IsFirstLeast q (stages ++ next ∷ []) (length stages) other
    first_changes n plan other first least less = record {
      its = at_last q stages [] next other least;
      none_less = λ m another at below.
          elim (at_cases q stages next m another at) as (λ _. ⊥) [
            | inl here ↦ first.none_less m another here (less_trans q another other plan below less)
            | inr last ↦
                less_not_itself q other
                (subst (λ p. IsLess q p other) (one_plan next other another least last.1) below)
          ];
      earlier_greater = λ m another at earlier.
          elim (at_cases q stages next m another at) as (λ _. IsLess q other another) [
            | inl here ↦ less_than_others q other plan another less (first.none_less m another here)
            | inr last ↦ absurd (omega (arith, last.0))
          ];
    }

    -- the plan of the next stage is it where there was none
    pub first_begins : (plan : Tree) → HaveNoPlan q stages → IsPlanIn q next plan
        → IsFirstLeast q (stages ++ next ∷ []) (length stages) plan
    first_begins plan none least = record {
      its = at_last q stages [] next plan least;
      none_less = λ m another at below.
          elim (at_cases q stages next m another at) as (λ _. ⊥) [
            | inl here ↦ none m another here
            | inr last ↦
                less_not_itself q plan (subst (λ p. IsLess q p plan) (one_plan next plan another least last.1) below)
          ];
      earlier_greater = λ m another at earlier.
          elim (at_cases q stages next m another at) as (λ _. IsLess q plan another) [
            | inl here ↦ absurd (none m another here)
            | inr last ↦ absurd (omega (arith, last.0))
          ];
    }
