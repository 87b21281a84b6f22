-- One stage more, and the end of the stages.
use Rattle.std.proofs.Common.{◌≡◌, ◌<◌, ◌≤◌, inl, inr, ℕ, List, [], ◌∷◌, ◌++◌, Option, None, Some, length}
use Rattle.std.proofs.Common.{take, length-take-le, le_of_lt, arith, refl, sym, ap, subst}
use Rattle.std.proofs.lemmas.List.Elements.{All-push}
use Rattle.query_core.specs.declared.query.Query.{Query}
use Rattle.request_props.specs.Numbered.{IsProps, IsWithinLimits}
use Rattle.request_props.specs.declared.props.Props.{Props}
use Rattle.plan_space.specs.Nodes.{Tree}
use Rattle.plan_space.specs.Cost.{cost_of}
use Rattle.plan_space.specs.Laws.{LeastIsOne}
use Rattle.plan_space.specs.Least.{IsLess, QueryHasNoPlan}
use Rattle.plan_tree.specs.Found.{IsFound}
use Rattle.plan_tree.specs.Spells.{Spells}
use Rattle.plan_tree.specs.declared.plan.Found.{Found}
use Rattle.plan_tree.specs.declared.plan.Found.TheVariants as founds
use Rattle.plan_tree.specs.declared.plan.Plan.{Plan}
use Rattle.stage_plan.specs.Stages.{query_in, IsEnough, IsFullIn, IsPlanIn, Stops}
use Rattle.stage_plan.specs.StagedRuns.{Answers, HasCost, HasRoom, IsFirstLeast, IsStagedRun}
use Rattle.stage_plan.specs.StagedRuns.{StagedAnswer, Tells, planned, unplanned, too_many}
use Rattle.stage_plan.specs.StagedRuns as told
use Rattle.stage_plan.specs.SoFar.{HaveRun, IsFoundIn, IsLeastOf, IsNext, IsPlanOf, Keeps, staged_of}
use Rattle.query_stage.specs.declared.stage.Stage.{Stage}
use Rattle.stage_plan.specs.declared.so_far.Chosen.{Chosen}
use Rattle.stage_plan.specs.declared.so_far.SoFar.{SoFar}
use Rattle.stage_plan.specs.declared.staged.Staged.TheVariants.{Least, Full}
use Rattle.stage_plan.proofs.Lists.{All-front, All-last, AllZip-push, last_of}
use Rattle.stage_plan.proofs.PlansAt.{none_more, one_plan, first_stays, first_changes, first_begins}

-- the stage at this place comes next
pub next_at : (q query : Query) (capacity : ℕ) (stages : List Stage) (old : SoFar) (next : Stage) (n : ℕ)
    (found : Option Found) (props : Props)
    → IsProps q props → query ≡ q → HaveRun q capacity (take n stages) old.ran old.least → n < length stages
    → IsFoundIn query capacity next found → IsNext q capacity (take n stages) old next n found
next_at q query capacity stages old next n found props collected same have near is = record {
  limits = record { few_lists = collected.few_lists; few_orders = collected.few_orders };
  have_run = have;
  its_number = sym (length-take-le n stages (le_of_lt near));
  is_found = subst (λ q. IsFoundIn q capacity next found) same is;
}

-- the least plan of the stage, with its cost
pub record IsPlanFor (q : Query) (stage : Stage) (plan : Plan) (cost : ℕ) : Type 0 where
  pub tree : Tree
  pub spells : Spells plan tree
  pub least : IsPlanIn q stage tree
  pub costs : cost ≡ cost_of q tree

pub plan_found : (q : Query) (stage : Stage) (plan : Plan) (cost : ℕ)
    → IsFound (query_in q stage) (founds.Least plan cost) → IsPlanFor q stage plan cost
plan_found q stage plan cost (tree, spells, least, costs) =
    record { tree = tree; spells = spells; least = least; costs = costs }

module _ (one : (q : Query) → LeastIsOne q) (q : Query) (limits : IsWithinLimits q) (capacity : ℕ) (stages : List Stage)
    (ran : List (Option ℕ)) (least : Option Chosen) (have : HaveRun q capacity stages ran least) (next : Stage) where
  -- ---- the next stage stops

  pub ends_full : (rest : List Stage) (number : ℕ) → number ≡ length stages → IsFullIn q capacity next
      → IsStagedRun q capacity (stages ++ next ∷ rest) (record { found = Full number; ran = ran })
  ends_full rest number its_number more = record {
    answer = too_many (length stages);
    tells = its_number;
    staging = record {
      before = stages;
      last = next;
      run = record { rest = rest; all = refl; go_on = have.go_on; ends = inl (inl more) };
      answers = told.full more have.costs refl;
    };
  }

  pub ends_enough : (rest : List Stage) (number : ℕ) → number ≡ length stages → (IsFullIn q capacity next → ⊥)
      → (plan : Plan) (cost : ℕ) → IsPlanFor q next plan cost → (threshold : ℕ) → next.threshold ≡ Some threshold
      → cost < threshold
      → IsStagedRun q capacity (stages ++ next ∷ rest)
      (record { found = Least number plan cost; ran = ran ++ Some cost ∷ [] })
  ends_enough rest number its_number not_full plan cost its threshold is_threshold less =
      let enough : IsEnough q next its.tree =
      record {
        threshold = threshold;
        is_threshold = is_threshold;
        least = its.least;
        less = omega (arith, its.costs);
      } in
      record {
        answer = planned (length stages) its.tree;
        tells = (its_number, its.spells, its.costs);
        staging = record {
          before = stages;
          last = next;
          run = record { rest = rest; all = refl; go_on = have.go_on; ends = inl (inr (its.tree, enough)) };
          answers =
              told.enough
              (record {
                some_room = not_full;
                have_costs =
                    AllZip-push (HasCost q) stages ran next (Some cost) have.costs (its.tree, its.least, its.costs);
              }) its.tree enough refl;
        };
      }

  -- ---- or it doesn't

  least_stays : (found : Option Chosen) → IsLeastOf q stages found → QueryHasNoPlan (query_in q next)
      → IsLeastOf q (stages ++ next ∷ []) found
  least_stays None none no_plan = none_more q stages next none no_plan
  least_stays (Some chosen) (plan, of, first) no_plan = (
    plan,
    of,
    first_stays one q limits stages next chosen.stage plan first
        (λ other its _. no_plan other its.serves),
  )

  pub takes_none : (IsFullIn q capacity next → ⊥) → QueryHasNoPlan (query_in q next)
      → HaveRun q capacity (stages ++ next ∷ []) (ran ++ None ∷ []) least
  takes_none not_full no_plan = record {
    go_on =
        All-push (λ stage. Stops q capacity stage → ⊥) stages next have.go_on
        (λ stops. elim stops as (λ _. ⊥) [
          | inl more ↦ not_full more
          | inr enough ↦ no_plan enough.0 enough.1.least.serves
        ]);
    costs = AllZip-push (HasCost q) stages ran next None have.costs no_plan;
    is_least = least_stays least have.is_least no_plan;
  }

  module _ (number : ℕ) (its_number : number ≡ length stages) (plan : Plan) (cost : ℕ)
      (its : IsPlanFor q next plan cost)
    where
      offered_is : IsPlanOf q (record { stage = number; plan = plan; cost = cost }) its.tree
      offered_is = record { spells = its.spells; costs = its.costs }

      least_kept : (found new : Option Chosen) → IsLeastOf q stages found
          → Keeps found (record { stage = number; plan = plan; cost = cost }) new
          → IsLeastOf q (stages ++ next ∷ []) new
      least_kept None new none keeps =
          let first : IsFirstLeast q (stages ++ next ∷ []) number its.tree =
          subst (λ n. IsFirstLeast q (stages ++ next ∷ []) n its.tree) (sym its_number)
          (first_begins one q limits stages next its.tree none its.least) in
          subst (λ f. IsLeastOf q (stages ++ next ∷ []) f) (sym keeps) (its.tree, offered_is, first)
      least_kept (Some kept) new (before, of, first) keeps =
          elim (keeps q before its.tree of offered_is) as (λ _. IsLeastOf q (stages ++ next ∷ []) new) [
            | inl changes ↦
                let changed : IsFirstLeast q (stages ++ next ∷ []) number its.tree =
                subst (λ n. IsFirstLeast q (stages ++ next ∷ []) n its.tree) (sym its_number)
                (first_changes one q limits stages next kept.stage before its.tree first its.least changes.1) in
                subst (λ f. IsLeastOf q (stages ++ next ∷ []) f) (sym changes.0) (its.tree, offered_is, changed)
            | inr stays ↦
                let stayed =
                first_stays one q limits stages next kept.stage before first
                (λ other least' less. stays.1
                (subst (λ p. IsLess q p before) (one_plan one q limits next its.tree other its.least least') less)) in
                subst (λ f. IsLeastOf q (stages ++ next ∷ []) f) (sym stays.0) (before, of, stayed)
          ]

      pub takes_plan : (IsFullIn q capacity next → ⊥)
          → ((threshold : ℕ) → next.threshold ≡ Some threshold → cost < threshold → ⊥) → (new : Option Chosen)
          → Keeps least (record { stage = number; plan = plan; cost = cost }) new
          → HaveRun q capacity (stages ++ next ∷ []) (ran ++ Some cost ∷ []) new
      takes_plan not_full not_enough new keeps = record {
        go_on =
            All-push (λ stage. Stops q capacity stage → ⊥) stages next have.go_on
            (λ stops. elim stops as (λ _. ⊥) [
              | inl more ↦ not_full more
              | inr enough ↦
                  let same = one_plan one q limits next its.tree enough.0 its.least enough.1.least in
                  let costs = ap (cost_of q) same in
                  not_enough enough.1.threshold enough.1.is_threshold (omega (arith, enough.1.less, its.costs, costs))
            ]);
        costs = AllZip-push (HasCost q) stages ran next (Some cost) have.costs (its.tree, its.least, its.costs);
        is_least = least_kept least new have.is_least keeps;
      }

-- ---- all stages have run

module _ (q : Query) (capacity : ℕ) (before : List Stage) (last : Stage) (ran : List (Option ℕ)) where
  room : (least : Option Chosen) → HaveRun q capacity (before ++ last ∷ []) ran least
      → HasRoom q capacity before last ran
  room least have = record {
    some_room = λ more. All-last (λ stage. Stops q capacity stage → ⊥) before last [] have.go_on (inl more);
    have_costs = have.costs;
  }

  answered : (least : Option Chosen) → HaveRun q capacity (before ++ last ∷ []) ran least → (answer : StagedAnswer)
      → Tells q (staged_of least) answer → Answers q capacity before last ran answer
      → IsStagedRun q capacity (before ++ last ∷ []) (record { found = staged_of least; ran = ran })
  answered least have answer tells answers = record {
    answer = answer;
    tells = tells;
    staging = record {
      before = before;
      last = last;
      run = record {
        rest = [];
        all = refl;
        go_on = All-front (λ stage. Stops q capacity stage → ⊥) before (last ∷ []) have.go_on;
        ends = inr refl;
      };
      answers = answers;
    };
  }

  ended_at : (least : Option Chosen) → HaveRun q capacity (before ++ last ∷ []) ran least
      → IsStagedRun q capacity (before ++ last ∷ []) (record { found = staged_of least; ran = ran })
  ended_at None have = answered None have unplanned tt (told.none (room None have) have.is_least refl)
  ended_at (Some chosen) have =
      let is = have.is_least in
      answered (Some chosen) have (planned chosen.stage is.0) (refl, is.1.spells, is.1.costs)
      (told.least (room (Some chosen) have)
      (λ plan enough. All-last (λ stage. Stops q capacity stage → ⊥) before last [] have.go_on (inr (plan, enough)))
      chosen.stage is.0 is.2 refl)

pub ended : (q : Query) (capacity : ℕ) (stages : List Stage) (ran : List (Option ℕ)) (least : Option Chosen)
    → 1 ≤ length stages → HaveRun q capacity stages ran least
    → IsStagedRun q capacity stages (record { found = staged_of least; ran = ran })
ended q capacity [] ran least some have = absurd (omega arith)
ended q capacity (stage ∷ stages) ran least some have =
    let split = last_of stage stages in
    subst (λ l. IsStagedRun q capacity l (record { found = staged_of least; ran = ran })) (sym split.all)
    (ended_at q capacity split.front split.last ran least (subst (λ l. HaveRun q capacity l ran least) split.all have))
