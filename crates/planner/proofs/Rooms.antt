-- A query whose search finished has room.
use Rattle.std.proofs.Common.{◌≡◌, ℕ, subst}
use Rattle.query_core.specs.declared.query.Query.{Query}
use Rattle.job_outcome.specs.declared.outcome.Outcome.{Outcome}
use Rattle.job_outcome.specs.declared.outcome.Outcome.TheVariants.{Done}
use Rattle.job_outcome.specs.declared.searched.Searched.{Searched}
use Rattle.job_engine.specs.Runs.{RunEnds}
use Rattle.planner.specs.Planned.{HasRoom}

-- its members and goals, in lists, fit in the capacity
pub room_of : (query : Query) (capacity : ℕ) (outcome : Outcome) (searched : Searched) → outcome ≡ Done searched
    → (workers : ℕ) × RunEnds query capacity workers outcome → HasRoom query capacity
room_of query capacity outcome searched is (workers, ends) =
    let done = subst (λ o. RunEnds query capacity workers o) is ends in
    let there = done.lists.lists in
    record {
      members = there.members;
      goals = there.goals;
      fits = (done.lists.each there done.lists.are).fits;
    }
