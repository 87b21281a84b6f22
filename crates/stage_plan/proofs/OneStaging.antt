-- The same stages have one answer.
use Rattle.std.proofs.Common.{◌≡◌, inl, inr, ℕ, List, [], ◌∷◌, ◌++◌, Option, Some, append_assoc, length, slice_get, sym}
use Rattle.std.proofs.Common.{subst, ◌∙◌}
use Rattle.std.specs.List.{AllZip}
use Rattle.std.proofs.lemmas.Bool.{cases_order}
use Rattle.query_core.specs.declared.query.Query.{Query}
use Rattle.request_props.specs.Numbered.{IsWithinLimits}
use Rattle.plan_space.specs.Nodes.{Tree}
use Rattle.plan_space.specs.Laws.{LeastIsOne}
use Rattle.stage_plan.specs.Stages.{Stops}
use Rattle.stage_plan.specs.StagedRuns.{Answers, full, enough, least, none, HasCost, IsFirstLeast}
use Rattle.stage_plan.specs.StagedRuns.{StagedAnswer, planned, IsPlanAt}
use Rattle.stage_plan.specs.Laws.{HasOneStaging, PlansAreOfStages}
use Rattle.query_stage.specs.declared.stage.Stage.{Stage}
use Rattle.stage_plan.proofs.Lists.{AllZip-one, one_split, get_left}
use Rattle.stage_plan.proofs.PlansAt.{at_last, one_cost, one_plan, one_plan_at}

module _ (one : (q : Query) → LeastIsOne q) (q : Query) (limits : IsWithinLimits q) (capacity : ℕ) where
  -- of stages one is the first with the least plan
  one_number : (stages : List Stage) (n m : ℕ) (plan other : Tree) → IsFirstLeast q stages n plan
      → IsFirstLeast q stages m other → m ≡ n
  one_number stages n m plan other first also =
      elim (cases_order m n) as (λ _. m ≡ n) [
        | inl same ↦ same
        | inr differ ↦ elim differ as (λ _. m ≡ n) [
          | inl below ↦ absurd (also.none_less n plan first.its (first.earlier_greater m other also.its below))
          | inr above ↦ absurd (first.none_less m other also.its (also.earlier_greater n plan first.its above))
        ]
      ]

  one_first : (stages : List Stage) (n m : ℕ) (plan other : Tree) → IsFirstLeast q stages n plan
      → IsFirstLeast q stages m other → planned m other ≡ planned n plan
  one_first stages n m plan other first also =
      let number = one_number stages n m plan other first also in
      let same = one_plan_at one q limits stages n plan other first.its
      (subst (λ k. IsPlanAt q stages k other) number also.its) in
      cc

  module _ (before : List Stage) (last : Stage) where
    one_costs : (stages : List Stage) (costs others : List (Option ℕ)) → AllZip (HasCost q) stages costs
        → AllZip (HasCost q) stages others → others ≡ costs
    one_costs stages costs others h k = AllZip-one (HasCost q) (one_cost one q limits) stages costs others h k

    one_answer : (costs others : List (Option ℕ)) (answer other : StagedAnswer)
        → Answers q capacity before last costs answer
        → Answers q capacity before last others other → (others ≡ costs) × (other ≡ answer)
    one_answer costs others answer other (full more h is) (full also k too) =
        (one_costs before costs others h k, too ∙ sym is)
    one_answer costs others answer other (full more h is) (enough room plan its too) = absurd (room.some_room more)
    one_answer costs others answer other (full more h is) (least room not_enough n plan its too) =
        absurd (room.some_room more)
    one_answer costs others answer other (full more h is) (none room its too) = absurd (room.some_room more)
    one_answer costs others answer other (enough room plan its is) (full more h too) = absurd (room.some_room more)
    one_answer costs others answer other (enough room plan its is) (enough also another it too) =
        let same = one_plan one q limits last plan another its.least it.least in
        (one_costs (before ++ last ∷ []) costs others room.have_costs also.have_costs, cc)
    one_answer costs others answer other (enough room plan its is) (least also not_enough n another it too) =
        absurd (not_enough plan its)
    one_answer costs others answer other (enough room plan its is) (none also it too) =
        absurd (it (length before) plan (at_last q before [] last plan its.least))
    one_answer costs others answer other (least room not_enough n plan its is) (full more h too) =
        absurd (room.some_room more)
    one_answer costs others answer other (least room not_enough n plan its is) (enough also another it too) =
        absurd (not_enough another it)
    one_answer costs others answer other (least room not_enough n plan its is) (least also nor m another it too) =
        let same = one_first (before ++ last ∷ []) n m plan another its it in
        (one_costs (before ++ last ∷ []) costs others room.have_costs also.have_costs, too ∙ same ∙ sym is)
    one_answer costs others answer other (least room not_enough n plan its is) (none also it too) =
        absurd (it n plan its.its)
    one_answer costs others answer other (none room its is) (full more h too) = absurd (room.some_room more)
    one_answer costs others answer other (none room its is) (enough also another it too) =
        absurd (its (length before) another (at_last q before [] last another it.least))
    one_answer costs others answer other (none room its is) (least also nor m another it too) =
        absurd (its m another it.its)
    one_answer costs others answer other (none room its is) (none also it too) =
        (one_costs (before ++ last ∷ []) costs others room.have_costs also.have_costs, too ∙ sym is)

pub one_staging : ((q : Query) → LeastIsOne q) → (q : Query) → HasOneStaging q
one_staging one q limits capacity stages costs others answer other first also =
    let split = one_split (Stops q capacity) first.before also.before first.last also.last first.run.rest also.run.rest
    (sym first.run.all ∙ also.run.all) first.run.go_on also.run.go_on first.run.ends also.run.ends in
    let before_same = split.0 in
    let last_same = split.1 in
    one_answer one q limits capacity first.before first.last costs others answer other first.answers
    (subst (λ b. Answers q capacity b first.last others other) before_same
    (subst (λ l. Answers q capacity also.before l others other) last_same also.answers))

-- a plan that is the answer is that of its stage
pub plans_of_stages : (q : Query) → PlansAreOfStages q
plans_of_stages q capacity stages costs number plan staging =
    subst (λ some. IsPlanAt q some number plan) (sym staging.run.all) (of_answers staging.answers)
  where
    before : List Stage
    before = staging.before

    rest : List Stage
    rest = staging.run.rest

    last : Stage
    last = staging.last

    of_answers : Answers q capacity before last costs (planned number plan)
        → IsPlanAt q (before ++ last ∷ rest) number plan
    of_answers (full more are is) = cc
    of_answers (enough room found its is) =
        let counted : length before ≡ number = cc in
        let same : found ≡ plan = cc in
        subst (λ n. IsPlanAt q (before ++ last ∷ rest) n plan) counted
        (subst (λ p. IsPlanAt q (before ++ last ∷ rest) (length before) p) same
        (at_last q before rest last found its.least))
    of_answers (least room not_enough n found its is) =
        let counted : n ≡ number = cc in
        let same : found ≡ plan = cc in
        let at = its.its in
        subst (λ k. IsPlanAt q (before ++ last ∷ rest) k plan) counted
        (subst (λ p. IsPlanAt q (before ++ last ∷ rest) n p) same (record {
          stage = at.stage;
          there = subst (λ some. slice_get some n ≡ Some at.stage) (append_assoc before (last ∷ []) rest)
              (get_left (before ++ last ∷ []) rest n at.stage at.there);
          least = at.least;
        }))
    of_answers (none room its is) = cc
