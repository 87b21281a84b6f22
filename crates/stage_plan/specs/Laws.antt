-- What all stages of a query share, and that they have one answer.
use Rattle.std.specs.Prelude.{◌≡◌, ℕ, List, Option}
use Rattle.query_core.specs.declared.query.Query.{Query}
use Rattle.request_props.specs.Numbered.{IsProps, IsWithinLimits}
use Rattle.request_props.specs.declared.props.Props.{Props}
use Rattle.plan_space.specs.Nodes.{Tree}
use Rattle.plan_space.specs.Cost.{cost_of}
use Rattle.stage_plan.specs.Stages.{query_in}
use Rattle.stage_plan.specs.StagedRuns.{StagedAnswer, planned, IsStaging, IsPlanAt}
use Rattle.query_stage.specs.declared.stage.Stage.{Stage}

-- the props of the query are those of the query in each stage
abbrev pub SharesProps : Query → Type 0
SharesProps q = (stage : Stage) (props : Props) → IsProps q props → IsProps (query_in q stage) props

-- a plan costs the same in each stage
abbrev pub SharesCosts : Query → Type 0
SharesCosts q = (stage : Stage) (plan : Tree) → cost_of (query_in q stage) plan ≡ cost_of q plan

-- a plan that is the answer is the least one of the stage that is told with it
abbrev pub PlansAreOfStages : Query → Type 0
PlansAreOfStages q =
    (capacity : ℕ) (stages : List Stage) (costs : List (Option ℕ)) (number : ℕ) (plan : Tree)
    → IsStaging q capacity stages costs (planned number plan) → IsPlanAt q stages number plan

-- the same stages have one answer, with the same costs
abbrev pub HasOneStaging : Query → Type 0
HasOneStaging q =
    IsWithinLimits q → (capacity : ℕ) (stages : List Stage) (costs other_costs : List (Option ℕ))
    (answer other : StagedAnswer)
    → IsStaging q capacity stages costs answer → IsStaging q capacity stages other_costs other
    → (other_costs ≡ costs) × (other ≡ answer)
