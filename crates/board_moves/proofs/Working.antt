-- The work of a turn goes on from what was done before.
use Rattle.std.proofs.Common.{◌≡◌, ◌≢◌, ℕ, [], ◌∷◌, refl, sym, subst}
use Rattle.word_table.specs.declared.outcome.Inserted.{Inserted}
use Rattle.word_table.specs.declared.outcome.Inserted.TheVariants.{Fresh, Known, Full}
use Rattle.board_rule.specs.Meaning.{Meaning}
use Rattle.board_rule.specs.Looks.{ShowsEntry, seen_there, ShowsPromise}
use Rattle.board_rule.specs.declared.hands.Hands.{Hands}
use Rattle.goal_board.specs.declared.board.Right.{Right}
use Rattle.goal_board.specs.declared.answers.Answer.{Answer}
use Rattle.goal_board.specs.Calls.{Inserts, FindsFull}
use Rattle.board_moves.specs.declared.progress.Progress.{Progress}
use Rattle.board_moves.specs.declared.progress.Progress.TheVariants as progress
use Rattle.board_moves.specs.Moves.{Proceeds, RunsOut, IsDoneUnlessWaiting}
use Rattle.board_moves.specs.Turns.{Works}
use Rattle.board_moves.proofs.CallMoves.{moves_looks, moves_fresh}
use Rattle.board_moves.proofs.MovesLemmas.{proceeds_none, proceeds_moved, proceeds_then, proceeds_wider, runs_out_then}
use Rattle.board_moves.proofs.MovesLemmas.{runs_out_wider}
use Rattle.board_moves.proofs.Putting.{only_looks_at}
use Rattle.board_moves.proofs.OneChild.{stands_at, stands_fresh}

module _ {R : Type 0} (meaning : Meaning) (capacity : ℕ) (Adds : ℕ → Type 0) where
  -- an entry that was put in, or found
  pub proceeds_put : (v : Hands R) (right : Right) (word : ℕ) (answer : Inserted) (w : Hands R) → Adds word
      → answer ≢ Full → Inserts capacity v word answer w → Proceeds Adds v right w right
  proceeds_put v right word (Fresh at) w adds fits t =
      proceeds_moved Adds v right w (word ∷ []) (adds, tt) (moves_fresh right.place capacity v word at w t)
  proceeds_put v right word (Known at) w adds fits t =
      proceeds_moved Adds v right w [] tt (moves_looks right.place v w (only_looks_at capacity v word at w t))
  proceeds_put v right word Full w adds fits t = absurd (fits refl)

  -- no cell was left for it
  pub runs_out_at : (v : Hands R) (right : Right) (word : ℕ) (w : Hands R) → Adds word → FindsFull capacity v word w
      → RunsOut Adds v right capacity w right
  runs_out_at v right word w adds t = record {
    middle = v;
    proceeds = proceeds_none Adds v right;
    word = word;
    adds_it = adds;
    full = t;
  }

  -- what was done before the work
  pub works_then : (v : Hands R) (before : Right) (u : Hands R) (middle : Right) (answer : Progress) (w : Hands R)
      (after : Right) → Proceeds Adds v before u middle → Works meaning capacity Adds u middle answer w after
      → Works meaning capacity Adds v before answer w after
  works_then v before u middle (progress.Complete answer) w after first t =
      (proceeds_then Adds v before u middle w after first t.0, t.1)
  works_then v before u middle progress.Waiting w after first t =
      (proceeds_then Adds v before u middle w after first t.0, t.1)
  works_then v before u middle progress.Full w after first t = runs_out_then Adds capacity v before u middle w after
      first t

  -- an entry that was put in, or found, is shown in a cell
  pub put_shown : (v : Hands R) (word : ℕ) (answer : Inserted) (w : Hands R) → word ≢ 0 → answer ≢ Full
      → Inserts capacity v word answer w → ShowsEntry meaning capacity w.looks word
  put_shown v word (Fresh at) w some_word fits t =
      seen_there word at t.near some_word (stands_fresh meaning capacity word some_word v at w t)
  put_shown v word (Known at) w some_word fits t =
      seen_there word at t.near some_word (stands_at meaning capacity word some_word v at w t)
  put_shown v word Full w some_word fits t = absurd (fits refl)

-- what may be put in by one measure may be by a wider one
pub works_wider : {R : Type 0} → (meaning : Meaning) (capacity : ℕ) (Adds Wider : ℕ → Type 0)
    → ((word : ℕ) → Adds word → Wider word) → (v : Hands R) (before : Right) (answer : Progress) (w : Hands R)
    (after : Right)
    → Works meaning capacity Adds v before answer w after → Works meaning capacity Wider v before answer w after
works_wider meaning capacity Adds Wider wider v before (progress.Complete answer) w after t =
    (proceeds_wider Adds Wider wider v before w after t.0, t.1)
works_wider meaning capacity Adds Wider wider v before progress.Waiting w after t =
    (proceeds_wider Adds Wider wider v before w after t.0, t.1)
works_wider meaning capacity Adds Wider wider v before progress.Full w after t =
    runs_out_wider Adds Wider wider capacity v before w after t

-- the end of a goal's work: where its right has no wait, its promise is shown and the answer is its own
pub works_end : {R : Type 0} → (meaning : Meaning) (capacity : ℕ) (Adds : ℕ → Type 0) (v : Hands R) (before : Right)
    (w : Hands R) (after : Right) (answer : Answer) (result : Progress)
    → Proceeds Adds v before w after → (after.waits ≡ 0 → ShowsPromise meaning capacity w.looks before.goal)
    → meaning.answer before.goal answer.cost answer.node → IsDoneUnlessWaiting after answer result
    → Works meaning capacity Adds v before result w after
works_end meaning capacity Adds v before w after answer (progress.Complete given) proceeds promise is_answer done = (
  proceeds,
  (
    done.0,
    subst (ShowsPromise meaning capacity w.looks) (sym proceeds.same_goal) (promise done.0),
    subst (λ (a : Answer). meaning.answer after.goal a.cost a.node) (sym done.1)
        (subst (λ goal. meaning.answer goal answer.cost answer.node) (sym proceeds.same_goal) is_answer),
  ),
)
works_end meaning capacity Adds v before w after answer progress.Waiting proceeds promise is_answer
    done = (proceeds, done)
works_end meaning capacity Adds v before w after answer progress.Full proceeds promise is_answer done = absurd done
