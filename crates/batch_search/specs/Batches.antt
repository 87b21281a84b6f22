-- Batches of queries, and what their searches give.
use Rattle.std.specs.Prelude.{◌≡◌, ℕ, ◌<◌, List, All, Some, length, slice_get}
use Rattle.query_core.specs.declared.query.Query.{Query}
use Rattle.request_props.specs.Numbered.{IsProps}
use Rattle.request_props.specs.declared.props.Props.{Props}
use Rattle.job_engine.specs.Runs.{AreDoneBy, Exceeds}
use Rattle.batch_search.specs.declared.outcome.ListedOutcome.{ListedOutcome}
use Rattle.batch_search.specs.declared.outcome.ListedOutcome.TheVariants.{Done, Full}
use Rattle.batch_search.specs.declared.search.BatchRun.{BatchRun}

-- as many props as queries, each those of the query at its place
pub record AreProps (queries : List Query) (props : List Props) : Type 0 where
  pub as_many : length props ≡ length queries
  pub each : (i : ℕ) (query : Query) (own : Props) → slice_get queries i ≡ Some query → slice_get props i ≡ Some own
      → IsProps query own

-- one worker finished all goals of the query, which has these lists, or the query has more entries than the capacity
abbrev pub EndsListed : Query → (capacity : ℕ) → ListedOutcome → Type 0
EndsListed query capacity (Done lists) = AreDoneBy query capacity 1 lists
EndsListed query capacity (Full told) = Exceeds query capacity told

-- the search of the query at this place, by one worker alone, ends so
abbrev pub EndsItem : List Query → (capacity item : ℕ) → ListedOutcome → Type 0
EndsItem queries capacity item outcome = (query : Query) → slice_get queries item ≡ Some query
    → EndsListed query capacity outcome

-- each outcome is one with which the search of its query by one worker alone ends, and each query has the number of one
-- of the workers
pub record EndsBatch (queries : List Query) (capacity workers : ℕ) (run : BatchRun) : Type 0 where
  pub as_many : length run.outcomes ≡ length queries
  pub ends : (i : ℕ) (outcome : ListedOutcome) → slice_get run.outcomes i ≡ Some outcome → EndsItem queries capacity i outcome
  pub one_each : length run.taken ≡ length queries
  pub below : All (λ worker. worker < workers) run.taken
