-- How a turn ends, by what its work has come to.
use Rattle.std.proofs.Common.{ℕ, sym, subst}
use Rattle.board_rule.specs.Meaning.{Meaning}
use Rattle.board_rule.specs.declared.hands.Hands.{Hands}
use Rattle.goal_board.specs.declared.board.Right.{Right}
use Rattle.goal_board.specs.RightCalls.{FinishesGoal}
use Rattle.board_moves.specs.declared.progress.Progress.{Progress}
use Rattle.board_moves.specs.declared.progress.Progress.TheVariants as progress
use Rattle.board_moves.specs.declared.progress.Turned.{Turned}
use Rattle.board_moves.specs.Turns.{MayFinish, GivesUp, EndsTurn, Works, Turns}

module _ {R : Type 0} (meaning : Meaning) (capacity : ℕ) (Adds : ℕ → Type 0) (v : Hands R) (before : Right) where
  -- a goal that is complete may be finished
  pub ready_after : (came : Progress) (w : Hands R) (after : Right) → Works meaning capacity Adds v before came w after
      → MayFinish meaning capacity w.looks after came
  ready_after (progress.Complete answer) w after works = works.1
  ready_after progress.Waiting w after works = tt
  ready_after progress.Full w after works = tt

  -- the work, and then the end
  pub turns_end : (worker : ℕ) (came : Progress) (u : Hands R) (after : Right) (turned : Turned) (w : Hands R)
      → Works meaning capacity Adds v before came u after → EndsTurn capacity u after.place worker came turned w
      → Turns capacity Adds v before worker turned w
  turns_end worker (progress.Complete answer) u after turned w works ends =
      subst (λ t. Turns capacity Adds v before worker t w) (sym ends.1) (record {
        middle = u;
        after = after;
        proceeds = works.0;
        cost = answer.cost;
        node = answer.node;
        finishes = subst (λ place. FinishesGoal capacity u place worker answer.cost answer.node ends.0 w)
            works.0.same_place
            ends.2;
      })
  turns_end worker progress.Waiting u after turned w works ends =
      subst (λ t. Turns capacity Adds v before worker t w) (sym ends.0)
      (record {
        middle = u;
        after = after;
        proceeds = works.0;
        some_wait = works.1;
        gives_up = subst (λ place. GivesUp u place w) works.0.same_place ends.1;
      })
  turns_end worker progress.Full u after turned w works ends =
      subst (λ t. Turns capacity Adds v before worker t w) (sym ends.0)
      (record {
        middle = u;
        after = after;
        runs_out = works;
        gives_up = subst (λ place. GivesUp u place w) works.proceeds.same_place ends.1;
      })
