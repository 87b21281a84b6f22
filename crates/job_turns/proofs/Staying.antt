-- A turn that stays at work over one call and then another.
use Rattle.std.proofs.Common.{ℕ, refl, ◌∙◌}
use Rattle.request_props.specs.Numbered.{IsWithinLimits}
use Rattle.job_turns.specs.Searches.{IsBoardSearch, IsAtWork, StaysAtWork}
use Rattle.job_turns.specs.declared.board_search.BoardSearch.{BoardSearch}
use Rattle.job_turns.specs.declared.job_turn.JobTurn.{JobTurn}

-- the query of a search has few hashed lists and orders
pub small_of : {search : BoardSearch} → IsBoardSearch search → IsWithinLimits search.query.now
small_of is = record { few_lists = is.props.few_lists; few_orders = is.props.few_orders }

module _ {H : Type 0} (search : BoardSearch) where
  -- before any call
  pub stays_at_first : (turn : JobTurn H) (capacity : ℕ) → IsAtWork search turn capacity
      → StaysAtWork search turn turn capacity
  stays_at_first turn capacity at_work = record { still = at_work; same_seat = refl; same_hints = refl }

  -- and over one more
  pub stays_then : (before middle after : JobTurn H) (first second : ℕ) → StaysAtWork search before middle first
      → StaysAtWork search middle after second → StaysAtWork search before after second
  stays_then before middle after first second stays then = record {
    still = then.still;
    same_seat = then.same_seat ∙ stays.same_seat;
    same_hints = then.same_hints ∙ stays.same_hints;
  }
