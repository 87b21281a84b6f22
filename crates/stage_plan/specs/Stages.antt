-- Stages of a query, in each of which other rules are off, and which of them run.
use Rattle.std.specs.Prelude.{◌≡◌, ◌<◌, ◌⊎◌, ℕ, List, [], ◌∷◌, ◌++◌, Some}
use Rattle.std.specs.List.{All}
use Rattle.query_core.specs.declared.query.Query.{Query}
use Rattle.plan_space.specs.Nodes.{Tree}
use Rattle.plan_space.specs.Cost.{cost_of}
use Rattle.plan_space.specs.Least.{IsLeastPlan}
use Rattle.job_outcome.specs.Outcomes.{HasMoreEntries}
use Rattle.query_stage.specs.declared.stage.Stage.{Stage}

-- ---- a stage

-- the query with the rules of the stage off
abbrev pub query_in : Query → Stage → Query
query_in q stage = record q {
  options = record (q.options) { off = stage.off };
  options_valid = record { below = stage.may_be_off.below; expansion_on = stage.may_be_off.expansion_on };
}

-- the plan is the least of the query in the stage
abbrev pub IsPlanIn : Query → Stage → Tree → Type 0
IsPlanIn q stage plan = IsLeastPlan (query_in q stage) plan

-- the query has more entries in the stage than the capacity
abbrev pub IsFullIn : Query → (capacity : ℕ) → Stage → Type 0
IsFullIn q capacity stage = HasMoreEntries (query_in q stage) capacity

-- the stage has a threshold, and its least plan costs less; costs are the same in each stage
pub record IsEnough (q : Query) (stage : Stage) (plan : Tree) : Type 0 where
  pub threshold : ℕ
  pub is_threshold : stage.threshold ≡ Some threshold
  pub least : IsPlanIn q stage plan
  pub less : cost_of q plan < threshold

-- ---- which stages run

-- no stage runs after this one
abbrev pub Stops : Query → (capacity : ℕ) → Stage → Type 0
Stops q capacity stage = IsFullIn q capacity stage ⊎ ((plan : Tree) × IsEnough q stage plan)

-- of these stages those before the last one run, and the last one: none before it stops, and either it stops or no
-- further one is there
pub record Run (q : Query) (capacity : ℕ) (stages before : List Stage) (last : Stage) : Type 0 where
  pub rest : List Stage
  pub all : stages ≡ before ++ last ∷ rest
  pub go_on : All (λ stage. Stops q capacity stage → ⊥) before
  pub ends : Stops q capacity last ⊎ (rest ≡ [])
