-- What a closed board gives, of an engine's scheduler and its last worker.
use Rattle.std.proofs.Common.{◌<◌, ap, subst, ◌∙◌}
use Rattle.board_rule.specs.Words.{cell_word}
use Rattle.board_rule.specs.Looks.{Looked}
use Rattle.board_rule.specs.declared.hands.Hands.{Hands}
use Rattle.goal_board.specs.Closing.{ClosesWith}
use Rattle.goal_board.specs.declared.closing.ClosedBoard.{ClosedBoard}
use Rattle.goal_rules.specs.declared.rules.Rules.{Rules}
use Rattle.job_turns.specs.Searches.{rules_mean}
use Rattle.job_outcome.specs.Outcomes.{ClosesSearch, IsDoneCase, IsFullCase, IsEnd}
use Rattle.job_outcome.specs.declared.outcome.Outcome.{Outcome}
use Rattle.job_outcome.specs.declared.outcome.Outcome.TheVariants.{Done, Full, Unfinished}
use Rattle.job_engine.specs.Searching.{query_of}
use Rattle.job_engine.specs.declared.engine.Engine.{Engine}

module _ (e : Engine) (v : Hands Rules) (board : ClosedBoard) where
  -- the board of the engine's scheduler is that of the query's search
  pub closes_search : Looked v.looks (cell_word e.scheduler.root) e.scheduler.goal
      → ClosesWith rules_mean e.scheduler.board.setup.rules e.scheduler.board.setup.capacity v board
      → ClosesSearch (query_of e) e.cells e.scheduler.root v board
  closes_search root closes = record {
    rules = e.scheduler.board.setup.rules;
    its_query = ap (λ (r : Rules). r.query.now) e.of_rules;
    closes = subst (λ n. ClosesWith rules_mean e.scheduler.board.setup.rules n v board) e.same_cells closes;
    near = subst (λ n. e.scheduler.root < n) e.same_cells e.scheduler.near;
    root = subst (λ g. Looked v.looks (cell_word e.scheduler.root) g) (e.same_goal ∙ e.its_root) root;
  }

-- an outcome with all goals is an end
pub done_ends : (outcome : Outcome) → IsDoneCase outcome → IsEnd outcome
done_ends (Done searched) is = tt
done_ends (Full told) is = absurd is
done_ends (Unfinished goal) is = absurd is

-- and so is that the board was full
pub full_ends : (outcome : Outcome) → IsFullCase outcome → IsEnd outcome
full_ends (Done searched) is = absurd is
full_ends (Full told) is = tt
full_ends (Unfinished goal) is = absurd is
