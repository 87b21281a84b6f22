-- What planning a query gives: the least plan, or that there is none, or too many entries, or the query's fault.
use Rattle.std.specs.Prelude.{ℕ, ◌≡◌, ◌≢◌, List, Err, ⊤}
use Rattle.query_core.specs.declared.catalog.Catalog.{Catalog}
use Rattle.query_core.specs.declared.query.Query.{Query}
use Rattle.sql_reader.specs.Faults.{IsFirst, IsReading}
use Rattle.sql_reader.specs.declared.faults.SqlFault.{SqlFault}
use Rattle.sql_reader.specs.declared.faults.SqlFault.TheVariants as texts
use Rattle.sql_reader.specs.declared.syntax.Select.{Select}
use Rattle.sql_bind.specs.Binding.{binding, IsBound}
use Rattle.sql_bind.specs.declared.fault.BindFault.{BindFault}
use Rattle.sql_bind.specs.declared.fault.BindFault.TheVariants as names
use Rattle.request_props.specs.Numbered.{IsRefusedFor, IsWithinLimits}
use Rattle.request_props.specs.declared.fault.PropsFault.{PropsFault}
use Rattle.request_props.specs.declared.fault.PropsFault.TheVariants as limits
use Rattle.plan_space.specs.Nodes.{Tree}
use Rattle.plan_space.specs.Cost.{cost_of}
use Rattle.plan_space.specs.Least.{IsLeastPlan, QueryHasNoPlan}
use Rattle.job_outcome.specs.Outcomes.{FitsIn}
use Rattle.job_engine.specs.Runs.{Exceeds}
use Rattle.planner.specs.Nodes.{nodes_of}
use Rattle.planner.specs.declared.fault.PlanFault.{PlanFault}
use Rattle.planner.specs.declared.fault.PlanFault.TheVariants.{Syntax, Binding, Limits, Memory}
use Rattle.planner.specs.declared.node.LeastPlan.{LeastPlan}
use Rattle.planner.specs.declared.node.Planned.{Planned}
use Rattle.planner.specs.declared.node.Planned.TheVariants.{Least, NoPlan, TooManyEntries}
use Rattle.planner.specs.declared.settings.Settings.{Settings}

-- ---- queries

-- there is room for the query's members and goals together
pub record HasRoom (q : Query) (capacity : ℕ) : Type 0 where
  pub members : List ℕ
  pub goals : List ℕ
  pub fits : FitsIn q capacity members goals

-- the query with its least plan: the plan's cost, and its nodes
pub record IsLeastOf (q : Query) (plan : LeastPlan) : Type 0 where
  pub its_query : plan.query ≡ q
  pub tree : Tree
  pub least : IsLeastPlan q tree
  pub cost : plan.cost ≡ cost_of q tree
  pub nodes : plan.nodes ≡ nodes_of q tree

-- the least plan of a query with room, or that there is none; or that the query has more entries than the capacity
abbrev pub IsPlannedQuery : Query → ℕ → Planned → Type 0
IsPlannedQuery q capacity (Least plan) = HasRoom q capacity × IsLeastOf q plan
IsPlannedQuery q capacity NoPlan = HasRoom q capacity × QueryHasNoPlan q
IsPlannedQuery q capacity (TooManyEntries told) = Exceeds q capacity told

-- ---- selects

-- the select is bound to a query within the limits, and this is what planning it gives
pub record IsPlannedSelect (catalog : Catalog) (settings : Settings) (select : Select) (planned : Planned) : Type 0
  where
    pub query : Query
    pub bound : IsBound select catalog settings.options query
    pub within : IsWithinLimits query
    pub gives : IsPlannedQuery query settings.capacity planned

-- the first fault of the select's names
pub record IsUnbound (catalog : Catalog) (select : Select) (fault : BindFault) : Type 0 where
  pub first : binding select catalog ≡ Err fault
  pub not_memory : fault ≢ names.Memory

-- the select is bound to a query with too many hashed lists, or else too many orders
pub record IsOutOfLimits (catalog : Catalog) (settings : Settings) (select : Select) (fault : PropsFault) : Type 0 where
  pub query : Query
  pub bound : IsBound select catalog settings.options query
  pub too_many : IsRefusedFor query fault
  pub not_memory : fault ≢ limits.Memory

-- the fault of a select, unless memory ran out
abbrev pub IsRefusedSelect : Catalog → Settings → Select → PlanFault → Type 0
IsRefusedSelect catalog settings select (Syntax fault) = ⊥
IsRefusedSelect catalog settings select (Binding fault) = IsUnbound catalog select fault
IsRefusedSelect catalog settings select (Limits fault) = IsOutOfLimits catalog settings select fault
IsRefusedSelect catalog settings select Memory = ⊤

-- ---- texts

-- the text is read as a select, of which this holds
pub record IsReadAs (text : List ℕ) (Fact : Select → Type 0) : Type 0 where
  pub select : Select
  pub reading : IsReading text select
  pub holds : Fact select

-- the text is no query, and this is its first fault
pub record IsUnread (text : List ℕ) (fault : SqlFault) : Type 0 where
  pub first : IsFirst text fault
  pub not_memory : fault ≢ texts.Memory

-- what planning the select gives that the text is read as
abbrev pub IsPlannedText : Catalog → Settings → List ℕ → Planned → Type 0
IsPlannedText catalog settings text planned = IsReadAs text (λ select. IsPlannedSelect catalog settings select planned)

-- the fault of a text, unless memory ran out
abbrev pub IsRefusedText : Catalog → Settings → List ℕ → PlanFault → Type 0
IsRefusedText catalog settings text (Syntax fault) = IsUnread text fault
IsRefusedText catalog settings text (Binding fault) = IsReadAs text (λ select. IsUnbound catalog select fault)
IsRefusedText catalog settings text (Limits fault) =
    IsReadAs text (λ select. IsOutOfLimits catalog settings select fault)
IsRefusedText catalog settings text Memory = ⊤
