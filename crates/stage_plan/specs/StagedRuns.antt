-- What the stages that run give.
use Rattle.std.specs.Prelude.{◌≡◌, ◌<◌, ℕ, List, [], ◌∷◌, ◌++◌, Option, None, Some, length, slice_get}
use Rattle.std.specs.List.{AllZip}
use Rattle.query_core.specs.declared.query.Query.{Query}
use Rattle.plan_space.specs.Nodes.{Tree}
use Rattle.plan_space.specs.Cost.{cost_of}
use Rattle.plan_space.specs.Least.{IsLess, QueryHasNoPlan}
use Rattle.plan_tree.specs.Spells.{Spells}
use Rattle.stage_plan.specs.Stages.{query_in, IsPlanIn, IsFullIn, IsEnough, Run}
use Rattle.query_stage.specs.declared.stage.Stage.{Stage}
use Rattle.stage_plan.specs.declared.staged.Staged.{Staged}
use Rattle.stage_plan.specs.declared.staged.Staged.TheVariants.{Least, NoPlan, Full}
use Rattle.stage_plan.specs.declared.staged.StagedRun.{StagedRun}

-- ---- costs

-- what the least plan of the stage costs, or None where it has no plan
abbrev pub HasCost : Query → Stage → Option ℕ → Type 0
HasCost q stage None = QueryHasNoPlan (query_in q stage)
HasCost q stage (Some cost) = (plan : Tree) × IsPlanIn q stage plan × (cost ≡ cost_of q plan)

-- the last stage has room for its entries, and these are the costs of all that run
pub record HasRoom (q : Query) (capacity : ℕ) (before : List Stage) (last : Stage) (costs : List (Option ℕ)) : Type 0
  where
    pub some_room : IsFullIn q capacity last → ⊥
    pub have_costs : AllZip (HasCost q) (before ++ last ∷ []) costs

-- ---- plans

-- the stage of this number has this least plan
pub record IsPlanAt (q : Query) (stages : List Stage) (number : ℕ) (plan : Tree) : Type 0 where
  pub stage : Stage
  pub there : slice_get stages number ≡ Some stage
  pub least : IsPlanIn q stage plan

-- of the least plans of these stages none is less, in cost and then in code, and each one of an earlier stage is greater
pub record IsFirstLeast (q : Query) (stages : List Stage) (number : ℕ) (plan : Tree) : Type 0 where
  pub its : IsPlanAt q stages number plan
  pub none_less : (n : ℕ) (other : Tree) → IsPlanAt q stages n other → IsLess q other plan → ⊥
  pub earlier_greater : (n : ℕ) (other : Tree) → IsPlanAt q stages n other → n < number → IsLess q plan other

-- no stage has a plan
abbrev pub HaveNoPlan : Query → List Stage → Type 0
HaveNoPlan q stages = (n : ℕ) (plan : Tree) → IsPlanAt q stages n plan → ⊥

-- ---- answers

-- the number of a stage with its plan; or that there is no plan; or the number of a stage with too many entries
pub data StagedAnswer : Type 0 where
  planned : (stage : ℕ) → Tree → StagedAnswer
  unplanned : StagedAnswer
  too_many : (stage : ℕ) → StagedAnswer

-- the answer of the stages that run: the last one has too many entries, and the costs are those of the others; or its
-- plan is enough; or it isn't, and the plan is the least of all; or none has a plan
pub data Answers (q : Query) (capacity : ℕ) (before : List Stage) (last : Stage) (costs : List (Option ℕ))
    (answer : StagedAnswer) : Type 0 where
  full : IsFullIn q capacity last → AllZip (HasCost q) before costs → answer ≡ too_many (length before)
      → Answers q capacity before last costs answer
  enough : HasRoom q capacity before last costs → (plan : Tree) → IsEnough q last plan
      → answer ≡ planned (length before) plan → Answers q capacity before last costs answer
  least : HasRoom q capacity before last costs → ((plan : Tree) → IsEnough q last plan → ⊥) → (stage : ℕ)
      → (plan : Tree)
      → IsFirstLeast q (before ++ last ∷ []) stage plan → answer ≡ planned stage plan
      → Answers q capacity before last costs answer
  none : HasRoom q capacity before last costs → HaveNoPlan q (before ++ last ∷ []) → answer ≡ unplanned
      → Answers q capacity before last costs answer

-- which stages run, what their least plans cost, and their answer
pub record IsStaging (q : Query) (capacity : ℕ) (stages : List Stage) (costs : List (Option ℕ))
    (answer : StagedAnswer) :
    Type 0 where
  pub before : List Stage
  pub last : Stage
  pub run : Run q capacity stages before last
  pub answers : Answers q capacity before last costs answer

-- ---- what is told

-- what was found tells this answer, and a plan's cost with it
abbrev pub Tells : Query → Staged → StagedAnswer → Type 0
Tells q (Least stage plan cost) (planned number tree) = (stage ≡ number) × Spells plan tree × (cost ≡ cost_of q tree)
Tells q (Least stage plan cost) unplanned = ⊥
Tells q (Least stage plan cost) (too_many number) = ⊥
Tells q NoPlan (planned number tree) = ⊥
Tells q NoPlan unplanned = Unit {0}
Tells q NoPlan (too_many number) = ⊥
Tells q (Full stage) (planned number tree) = ⊥
Tells q (Full stage) unplanned = ⊥
Tells q (Full stage) (too_many number) = stage ≡ number

-- the run tells the answer of the stages, and their costs
pub record IsStagedRun (q : Query) (capacity : ℕ) (stages : List Stage) (run : StagedRun) : Type 0 where
  pub answer : StagedAnswer
  pub tells : Tells q run.found answer
  pub staging : IsStaging q capacity stages run.ran answer
