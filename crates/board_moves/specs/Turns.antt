-- What a turn of a goal that was claimed does to the hands of its seat, and what its answer means.
use Rattle.std.specs.Prelude.{◌≡◌, ℕ, ◌≤◌, List}
use Rattle.board_rule.specs.Meaning.{Meaning}
use Rattle.board_rule.specs.Looks.{ShowsPromise}
use Rattle.board_rule.specs.declared.hands.Hands.{Hands}
use Rattle.goal_board.specs.declared.board.Right.{Right}
use Rattle.goal_board.specs.declared.answers.Woken.{Woken}
use Rattle.goal_board.specs.declared.answers.Suspended.{Suspended}
use Rattle.goal_board.specs.RightCalls.{SuspendsGoal, FinishesGoal}
use Rattle.board_moves.specs.Moves.{Proceeds, RunsOut}
use Rattle.board_moves.specs.declared.progress.Progress.{Progress}
use Rattle.board_moves.specs.declared.progress.Turned.{Turned}
use Rattle.board_moves.specs.declared.progress.Progress.TheVariants as progress
use Rattle.board_moves.specs.declared.progress.Turned.TheVariants as turned

-- a goal may be finished with an answer where its right has no wait, the looks show its promise, and the answer is the
-- goal's
abbrev pub MayFinish : Meaning → ℕ → List (ℕ × ℕ) → Right → Progress → Type 0
MayFinish meaning capacity looks right (progress.Complete answer) = (right.waits ≡ 0)
    × ShowsPromise meaning capacity looks right.goal × meaning.answer right.goal answer.cost answer.node
MayFinish meaning capacity looks right progress.Waiting = Unit {0}
MayFinish meaning capacity looks right progress.Full = Unit {0}

-- the right to the goal was given up
abbrev pub GivesUp : {R : Type 0} → Hands R → ℕ → Hands R → Type 0
GivesUp v place w = (answer : Suspended) × SuspendsGoal v place answer w

module _ {R : Type 0} (capacity : ℕ) (v : Hands R) (place worker : ℕ) where
  -- a goal that is complete was finished, and another was suspended
  abbrev pub EndsTurn : Progress → Turned → Hands R → Type 0
  EndsTurn (progress.Complete answer) result w = (woken : Woken) × (result ≡ turned.Finished woken)
      × FinishesGoal capacity v place worker answer.cost answer.node woken w
  EndsTurn progress.Waiting result w = (result ≡ turned.Suspended) × GivesUp v place w
  EndsTurn progress.Full result w = (result ≡ turned.Full) × GivesUp v place w

module _ {R : Type 0} (meaning : Meaning) (capacity : ℕ) (Adds : ℕ → Type 0) (v : Hands R) (before : Right) where
  -- what a turn has come to before it ends: the goal may be finished, or its right has a wait, or an entry found no
  -- cell
  abbrev pub Works : Progress → Hands R → Right → Type 0
  Works (progress.Complete answer) w after = Proceeds Adds v before w after
      × MayFinish meaning capacity w.looks after (progress.Complete answer)
  Works progress.Waiting w after = Proceeds Adds v before w after × (1 ≤ after.waits)
  Works progress.Full w after = RunsOut Adds v before capacity w after

module _ {R : Type 0} (capacity : ℕ) (Adds : ℕ → Type 0) (v : Hands R) (right : Right) (worker : ℕ) where
  -- the goal was finished, without a wait
  pub record TurnFinishes (woken : Woken) (w : Hands R) : Type 0 where
    pub middle : Hands R
    pub after : Right
    pub proceeds : Proceeds Adds v right middle after
    pub cost : ℕ
    pub node : ℕ
    pub finishes : FinishesGoal capacity middle right.place worker cost node woken w

  -- the goal was suspended, and its right had a wait
  pub record TurnSuspends (w : Hands R) : Type 0 where
    pub middle : Hands R
    pub after : Right
    pub proceeds : Proceeds Adds v right middle after
    pub some_wait : 1 ≤ after.waits
    pub gives_up : GivesUp middle right.place w

  -- an entry found every cell taken, and the goal was suspended
  pub record TurnRunsOut (w : Hands R) : Type 0 where
    pub middle : Hands R
    pub after : Right
    pub runs_out : RunsOut Adds v right capacity middle after
    pub gives_up : GivesUp middle right.place w

  abbrev pub Turns : Turned → Hands R → Type 0
  Turns (turned.Finished woken) w = TurnFinishes woken w
  Turns turned.Suspended w = TurnSuspends w
  Turns turned.Full w = TurnRunsOut w
