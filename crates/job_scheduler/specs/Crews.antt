-- Workers that come back once the search has ended.
use Rattle.std.specs.Prelude.{◌≡◌, ◌⊎◌, ℕ, ◌<◌, List, All, Option, None, Some}
use Rattle.board_rule.specs.Meaning.{Meaning}
use Rattle.board_rule.specs.Records.{Ended}
use Rattle.board_rule.specs.Looks.{ShowsFull, ShowsClosed}
use Rattle.board_rule.specs.Seats.{Each, total}
use Rattle.goal_board.specs.declared.board.Board.{Board}
use Rattle.goal_board.specs.Seats.{hands}
use Rattle.job_scheduler.specs.Workers.{IsFreeWorkerOf}
use Rattle.job_scheduler.specs.Steps.{work_left}
use Rattle.job_scheduler.specs.declared.worker.Worker.{Worker}

-- the looks show the root goal finished, or the board full
abbrev pub ShowsEnd : List (ℕ × ℕ) → ℕ → Type 0
ShowsEnd looks root = ShowsClosed looks root ⊎ ShowsFull looks

-- each goal was finished by a worker with a smaller number
abbrev pub AreDoneBelow : ℕ → List Ended → Type 0
AreDoneBelow n done = Each (λ (e : Ended). e.worker < n) done

-- a worker of a crew of n
pub record IsOfCrew {R : Type 0} (meaning_of : R → Meaning) (b : Board R) (root goal n : ℕ) (w : Worker R) : Type 0
  where
    pub its : IsFreeWorkerOf meaning_of b root goal w
    pub number : w.number < n
    pub done : AreDoneBelow n (hands w.seat).done

-- a worker came back, with its parts, once it had seen the end
pub record Worked {R : Type 0} (meaning_of : R → Meaning) (b : Board R) (root goal n : ℕ) (v w : Worker R) : Type 0
  where
    pub its : IsOfCrew meaning_of b root goal n w
    pub parts : (hands w.seat).parts ≡ (hands v.seat).parts
    pub ended : ShowsEnd (hands w.seat).looks root

-- all of these workers are of the crew, and have seen the end
abbrev pub AreWorked : {R : Type 0} → (R → Meaning) → Board R → (root goal n : ℕ) → List (Worker R) → Type 0
AreWorked meaning_of b root goal n workers =
    All (λ w. IsOfCrew meaning_of b root goal n w × ShowsEnd (hands w.seat).looks root) workers

-- how much is left to do for a worker that is alone
abbrev pub work_alone_left : Meaning → ℕ → Option (List ℕ) → ℕ
work_alone_left meaning capacity None = 0
work_alone_left meaning capacity (Some words) = work_left meaning capacity words

-- the parts of all these workers
abbrev pub parts_of : {R : Type 0} → List (Worker R) → ℕ
parts_of workers = total (λ w. (hands w.seat).parts) workers
