-- The stages that have run so far: cited by private functions alone.
use Rattle.std.specs.Prelude.{◌≡◌, ◌⊎◌, ℕ, List, [], ◌∷◌, ◌++◌, Option, None, Some, length}
use Rattle.std.specs.List.{All, AllZip}
use Rattle.query_core.specs.declared.query.Query.{Query}
use Rattle.job_outcome.specs.Outcomes.{HasMoreEntries}
use Rattle.request_props.specs.Numbered.{IsWithinLimits}
use Rattle.plan_space.specs.Nodes.{Tree}
use Rattle.plan_space.specs.Cost.{cost_of}
use Rattle.plan_space.specs.Least.{IsLess}
use Rattle.plan_tree.specs.Found.{IsFound}
use Rattle.plan_tree.specs.Spells.{Spells}
use Rattle.plan_tree.specs.declared.plan.Found.{Found}
use Rattle.stage_plan.specs.Stages.{query_in, Stops}
use Rattle.stage_plan.specs.StagedRuns.{HasCost, IsFirstLeast, HaveNoPlan, IsStagedRun}
use Rattle.query_stage.specs.declared.stage.Stage.{Stage}
use Rattle.stage_plan.specs.declared.so_far.Chosen.{Chosen}
use Rattle.stage_plan.specs.declared.so_far.SoFar.{SoFar}
use Rattle.stage_plan.specs.declared.staged.Staged.{Staged}
use Rattle.stage_plan.specs.declared.staged.Staged.TheVariants.{Least, NoPlan}

-- the least plan of the query, or that there is none; nothing where the query has more entries than the capacity
abbrev pub IsFoundWithin : Query → (capacity : ℕ) → Option Found → Type 0
IsFoundWithin q capacity None = HasMoreEntries q capacity
IsFoundWithin q capacity (Some found) = (HasMoreEntries q capacity → ⊥) × IsFound q found

-- the same of the query in a stage
abbrev pub IsFoundIn : Query → (capacity : ℕ) → Stage → Option Found → Type 0
IsFoundIn q capacity stage found = IsFoundWithin (query_in q stage) capacity found

-- the plan that was chosen, with its cost
pub record IsPlanOf (q : Query) (chosen : Chosen) (plan : Tree) : Type 0 where
  pub spells : Spells chosen.plan plan
  pub costs : chosen.cost ≡ cost_of q plan

-- the least of the plans of these stages, or that there is none
abbrev pub IsLeastOf : Query → List Stage → Option Chosen → Type 0
IsLeastOf q stages None = HaveNoPlan q stages
IsLeastOf q stages (Some chosen) = (plan : Tree) × IsPlanOf q chosen plan × IsFirstLeast q stages chosen.stage plan

-- a plan is offered: it takes the place of the one that was there, if any, exactly where it is less
abbrev pub Keeps : Option Chosen → Chosen → Option Chosen → Type 0
Keeps None offered new = new ≡ Some offered
Keeps (Some kept) offered new =
    (q : Query) (plan other : Tree) → IsPlanOf q kept plan → IsPlanOf q offered other
    → ((new ≡ Some offered) × IsLess q other plan) ⊎ ((new ≡ Some kept) × (IsLess q other plan → ⊥))

-- none of these stages stops; what their least plans cost; and the least of these plans
pub record HaveRun (q : Query) (capacity : ℕ) (stages : List Stage) (ran : List (Option ℕ)) (least : Option Chosen) :
    Type 0
  where
    pub go_on : All (λ stage. Stops q capacity stage → ⊥) stages
    pub costs : AllZip (HasCost q) stages ran
    pub is_least : IsLeastOf q stages least

-- these stages have run, and the next one has this number and gives this
pub record IsNext (q : Query) (capacity : ℕ) (stages : List Stage) (old : SoFar) (next : Stage) (number : ℕ)
    (found : Option Found) : Type 0 where
  pub limits : IsWithinLimits q
  pub have_run : HaveRun q capacity stages old.ran old.least
  pub its_number : number ≡ length stages
  pub is_found : IsFoundIn q capacity next found

-- the next stage is taken in; there is an answer where it stops, whatever stages come after it
abbrev pub TakesIn : SoFar → Stage → ℕ → Option Found → SoFar → Option Staged → Type 0
TakesIn old next number found new None =
    (q : Query) (capacity : ℕ) (stages : List Stage) → IsNext q capacity stages old next number found
    → HaveRun q capacity (stages ++ next ∷ []) new.ran new.least
TakesIn old next number found new (Some answer) =
    (q : Query) (capacity : ℕ) (stages rest : List Stage) → IsNext q capacity stages old next number found
    → IsStagedRun q capacity (stages ++ next ∷ rest) (record { found = answer; ran = new.ran })

-- the plan is the answer, if there is one
abbrev pub staged_of : Option Chosen → Staged
staged_of None = NoPlan
staged_of (Some chosen) = Least chosen.stage chosen.plan chosen.cost
