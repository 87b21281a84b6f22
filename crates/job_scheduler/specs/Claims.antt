-- What comes of looking for a goal that is ready, and at the root goal.
use Rattle.std.specs.Prelude.{◌≡◌, ◌⊎◌, ℕ, ◌^◌, ◌≤◌, ◌<◌, [], List, Option, None, Some}
use Rattle.board_rule.specs.Meaning.{Meaning}
use Rattle.board_rule.specs.Words.{head_word}
use Rattle.board_rule.specs.Looks.{Looked, ShowsFull, ShowsClosed}
use Rattle.board_rule.specs.declared.hands.Hands.{Hands}
use Rattle.goal_board.specs.declared.board.Board.{Board}
use Rattle.goal_board.specs.declared.board.Right.{Right}
use Rattle.goal_board.specs.Seats.{hands}
use Rattle.goal_board.specs.Alone.{IsReadyIn}
use Rattle.goal_board.specs.Calls.{LeavesOut}
use Rattle.goal_board.specs.RightCalls.{ShowsBusy, ClaimsGoal}
use Rattle.job_scheduler.specs.Workers.{OnlyLooked}
use Rattle.job_scheduler.specs.declared.sought.Sought.{Sought}
use Rattle.job_scheduler.specs.declared.sought.Sought.TheVariants as sought
use Rattle.job_scheduler.specs.declared.sought.Standing.{Standing}
use Rattle.job_scheduler.specs.declared.sought.Standing.TheVariants as standing
use Rattle.job_scheduler.specs.declared.worker.Worker.{Worker}

-- one of the looks found the head at the place open
abbrev pub ShowsOpen : List (ℕ × ℕ) → ℕ → Type 0
ShowsOpen looks place = (found : ℕ) × Looked looks (head_word place) found × (found < 2 ^ 63)

-- where one of these looks showed the head at the place closed, it is found closed
abbrev pub StaysClosed : List (ℕ × ℕ) → ℕ → Standing → Type 0
StaysClosed looks root found = ShowsClosed looks root → found ≡ standing.Done

-- where one of these looks showed the full word set, it is found set, or the root goal is found finished
abbrev pub StaysFull : List (ℕ × ℕ) → Standing → Type 0
StaysFull looks found = ShowsFull looks → (found ≡ standing.Full) ⊎ (found ≡ standing.Done)

module _ {R : Type 0} (meaning : Meaning) (capacity : ℕ) (v : Hands R) where
  -- after further looks a goal was found ready, and claimed
  pub record LooksAndClaims (right : Right) (w : Hands R) : Type 0 where
    pub middle : Hands R
    pub looks : OnlyLooked v middle
    pub claims : ClaimsGoal meaning capacity middle right.place right w

  -- a goal was claimed, or nothing more than looks
  abbrev pub MayClaimOne : Option Right → Hands R → Type 0
  MayClaimOne None w = OnlyLooked v w
  MayClaimOne (Some right) w = LooksAndClaims right w

  -- the looks found no ready goal at any place of these
  pub record FindsAllBusy (from to : ℕ) (w : Hands R) : Type 0 where
    pub looks : OnlyLooked v w
    pub busy : (at : ℕ) → from ≤ at → at < to → ShowsBusy meaning looks.more at

  -- a goal was claimed, or all places of these were found busy
  abbrev pub Sweeps : (from to : ℕ) → Option Right → Hands R → Type 0
  Sweeps from to None w = FindsAllBusy from to w
  Sweeps from to (Some right) w = LooksAndClaims right w

  -- the head at the place was found open, and where the seat is alone and holds no right, some goal that it keeps is
  -- ready
  pub record FindsRootOpen (root : ℕ) (w : Hands R) : Type 0 where
    pub looks : OnlyLooked v w
    pub root_open : ShowsOpen looks.more root
    pub ready : (kept : List ℕ) → v.alone ≡ Some kept → v.rights ≡ [] → (place : ℕ)
        × IsReadyIn meaning capacity kept place

  -- the head at the place was found closed; where the full word was seen set by then, some entry was shown by no look
  pub record FindsRootClosed (root : ℕ) (w : Hands R) : Type 0 where
    pub looks : OnlyLooked v w
    pub closed : ShowsClosed looks.more root
    pub left_out : LeavesOut meaning capacity w.looks

  -- the full word was found set
  pub record FindsFullSet (w : Hands R) : Type 0 where
    pub looks : OnlyLooked v w
    pub full : ShowsFull looks.more

  -- how the board was found to stand
  abbrev pub Finds : (root : ℕ) → Standing → Hands R → Type 0
  Finds root standing.Open w = FindsRootOpen root w
  Finds root standing.Done w = FindsRootClosed root w
  Finds root standing.Full w = FindsFullSet w

  -- what came of looking at all places of these, and now and then at the root goal and the full word
  abbrev pub Seeks : (root from to : ℕ) → Sought → Hands R → Type 0
  Seeks root from to (sought.Claimed right) w = LooksAndClaims right w
  Seeks root from to sought.Busy w = FindsAllBusy from to w
  Seeks root from to sought.Done w = FindsRootClosed root w
  Seeks root from to sought.Full w = FindsFullSet w

-- the same of a worker of a board, before and after
module _ {R : Type 0} (meaning_of : R → Meaning) (b : Board R) (worker : Worker R) where
  -- it claimed a goal, or only looked
  abbrev pub WorkerClaims : Option Right → Worker R → Type 0
  WorkerClaims found after = MayClaimOne (meaning_of b.setup.rules) b.setup.capacity (hands worker.seat) found
      (hands after.seat)

  -- it claimed a goal, or found all these places busy
  abbrev pub WorkerSweeps : (from to : ℕ) → Option Right → Worker R → Type 0
  WorkerSweeps from to found after =
      Sweeps (meaning_of b.setup.rules) b.setup.capacity (hands worker.seat) from to found (hands after.seat)

  -- how it found the board to stand
  abbrev pub WorkerFinds : (root : ℕ) → Standing → Worker R → Type 0
  WorkerFinds root found after =
      Finds (meaning_of b.setup.rules) b.setup.capacity (hands worker.seat) root found (hands after.seat)

  -- what came of its look at all these places
  abbrev pub WorkerSeeks : (root from to : ℕ) → Sought → Worker R → Type 0
  WorkerSeeks root from to found after =
      Seeks (meaning_of b.setup.rules) b.setup.capacity (hands worker.seat) root from to found (hands after.seat)

  -- what came of its look at all places of the board
  abbrev pub WorkerSeeksAll : (root : ℕ) → Sought → Worker R → Type 0
  WorkerSeeksAll root found after = WorkerSeeks root 0 b.setup.capacity found after
