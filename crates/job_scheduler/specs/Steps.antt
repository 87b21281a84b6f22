-- What a step of a worker does, and what its answer means.
use Rattle.std.specs.Prelude.{◌≡◌, ◌⊎◌, ℕ, ◌+◌, ◌*◌, ◌≤◌, ◌<◌, List, [], ◌∷◌, ◌++◌, Some}
use Rattle.board_rule.specs.Meaning.{Meaning}
use Rattle.board_rule.specs.Looks.{ShowsFull, ShowsClosed}
use Rattle.board_rule.specs.Seats.{fresh_right}
use Rattle.board_rule.specs.declared.hands.Hands.{Hands}
use Rattle.goal_board.specs.declared.board.Board.{Board}
use Rattle.goal_board.specs.Seats.{hands}
use Rattle.goal_board.specs.Calls.{LeavesOut}
use Rattle.goal_board.specs.RightCalls.{ShowsBusy}
use Rattle.board_moves.specs.Counts.{ready_count, empty_count, open_count, AdvancesAlone}
use Rattle.job_scheduler.specs.Workers.{Later, OnlyLooked}
use Rattle.job_scheduler.specs.Claims.{ShowsOpen}
use Rattle.job_scheduler.specs.declared.worker.Worker.{Worker}
use Rattle.job_scheduler.specs.declared.stepped.Stepped.{Stepped}
use Rattle.job_scheduler.specs.declared.stepped.Stepped.TheVariants as stepped

module _ {R : Type 0} (v w : Hands R) where
  -- what a step leaves as it was: the parts, and the rights, which are none; what was seen was seen
  pub record Keeps : Type 0 where
    pub parts : w.parts ≡ v.parts
    pub rights : w.rights ≡ v.rights
    pub looks : Later v.looks w.looks

  -- the worker with this number finished the goal at the place
  pub record FinishesOne (number place : ℕ) : Type 0 where
    pub cost : ℕ
    pub node : ℕ
    pub done : w.done ≡ record { place = place; worker = number; cost = cost; node = node } ∷ v.done
    pub suspensions : w.suspensions ≡ v.suspensions

  -- the goal at the place was suspended, and waits for others
  pub record SuspendsOne (place : ℕ) : Type 0 where
    pub waits : ℕ
    pub some_wait : 1 ≤ waits
    pub suspensions : w.suspensions ≡ record { place = place; waits = waits } ∷ v.suspensions
    pub done : w.done ≡ v.done

  -- one goal was claimed, and its turn made
  pub record RunsOne (number : ℕ) : Type 0 where
    pub place : ℕ
    pub claims : w.claims ≡ place ∷ v.claims
    pub ends : FinishesOne number place ⊎ SuspendsOne place

module _ {R : Type 0} (v w : Hands R) where
  -- what the turn of the goal at the place leaves as it was; the right to it, the only one, is spent
  pub record TurnKeeps (place : ℕ) : Type 0 where
    pub parts : w.parts ≡ v.parts
    pub claims : w.claims ≡ v.claims
    pub rights : v.rights ≡ fresh_right place ∷ [] → w.rights ≡ []
    pub looks : Later v.looks w.looks

  -- the full word was found set, by a look or by an insert, and no goal was finished
  pub record RunsOut : Type 0 where
    pub more : List (ℕ × ℕ)
    pub looks : w.looks ≡ more ++ v.looks
    pub full : ShowsFull more
    pub done : w.done ≡ v.done

-- what came of the turn of the goal at the place
abbrev pub Runs : {R : Type 0} → (number place : ℕ) → Hands R → Stepped → Hands R → Type 0
Runs number place v stepped.Ran w = FinishesOne v w number place ⊎ SuspendsOne v w place
Runs number place v stepped.Idle w = ⊥
Runs number place v stepped.Done w = ⊥
Runs number place v stepped.Full w = RunsOut v w

module _ {R : Type 0} (meaning : Meaning) (capacity root : ℕ) (v w : Hands R) where
  -- nothing was claimed, and in this call each place was found without a goal that is ready, and the root goal open
  pub record TellsIdle : Type 0 where
    pub looks : OnlyLooked v w
    pub busy : (at : ℕ) → at < capacity → ShowsBusy meaning looks.more at
    pub root_open : ShowsOpen looks.more root

  -- nothing was claimed, and in this call the root goal was found finished; where the full word was seen set by then,
  -- some entry was shown by no look
  pub record TellsDone : Type 0 where
    pub looks : OnlyLooked v w
    pub closed : ShowsClosed looks.more root
    pub left_out : LeavesOut meaning capacity w.looks

  -- in this call the full word was found set, by a look or by an insert; one goal at most was claimed, and none
  -- finished
  pub record TellsFull : Type 0 where
    pub runs_out : RunsOut v w
    pub claims : (w.claims ≡ v.claims) ⊎ ((place : ℕ) × (w.claims ≡ place ∷ v.claims))

module _ {R : Type 0} (meaning : Meaning) (capacity root number : ℕ) (v : Hands R) where
  -- what the answer of a step means
  abbrev pub Steps : Stepped → Hands R → Type 0
  Steps stepped.Ran w = RunsOne v w number
  Steps stepped.Idle w = TellsIdle meaning capacity root v w
  Steps stepped.Done w = TellsDone meaning capacity root v w
  Steps stepped.Full w = TellsFull meaning capacity root v w

-- how much is left to do, which each turn brings down
abbrev pub work_left : Meaning → ℕ → List ℕ → ℕ
work_left meaning capacity words = (open_count capacity words + empty_count capacity words) * (capacity + 1) +
    ready_count meaning capacity
    words

module _ {R : Type 0} (meaning : Meaning) (capacity : ℕ) (v : Hands R) where
  -- a worker that is alone never finds nothing to do, and each turn leaves less to do
  abbrev pub StepsAlone : Stepped → Hands R → Type 0
  StepsAlone stepped.Ran w = (kept : List ℕ) → v.alone ≡ Some kept → (words : List ℕ) × (w.alone ≡ Some words)
      × (work_left meaning capacity words < work_left meaning capacity kept)
  StepsAlone stepped.Idle w = (kept : List ℕ) → v.alone ≡ Some kept → ⊥
  StepsAlone stepped.Done w = Unit {0}
  StepsAlone stepped.Full w = Unit {0}

-- the same of a worker of a board, before and after
module _ {R : Type 0} (meaning_of : R → Meaning) (b : Board R) (worker : Worker R) where
  -- what the answer of its step means
  abbrev pub WorkerSteps : (root : ℕ) → Stepped → Worker R → Type 0
  WorkerSteps root found after =
      Steps (meaning_of b.setup.rules) b.setup.capacity root worker.number (hands worker.seat) found (hands after.seat)

  -- where it is alone it never finds nothing to do, and each turn leaves less to do
  abbrev pub WorkerStepsAlone : Stepped → Worker R → Type 0
  WorkerStepsAlone found after =
      StepsAlone (meaning_of b.setup.rules) b.setup.capacity (hands worker.seat) found (hands after.seat)

  -- the turn of a goal leaves it less to do, where it is alone
  abbrev pub WorkerAdvancesAlone : Worker R → Type 0
  WorkerAdvancesAlone after = AdvancesAlone (meaning_of b.setup.rules) b.setup.capacity (hands worker.seat)
      (hands after.seat)
