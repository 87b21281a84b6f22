-- The engine of a query's search, its workers, and what a search gives.
use Rattle.std.specs.Prelude.{◌≡◌, ℕ}
use Rattle.query_core.specs.declared.query.Query.{Query}
use Rattle.board_rule.specs.Looks.{ShowsClosed}
use Rattle.board_rule.specs.declared.hands.Hands.{Hands}
use Rattle.goal_board.specs.Seats.{hands}
use Rattle.goal_board.specs.declared.closing.ClosedBoard.{ClosedBoard}
use Rattle.goal_space.specs.Words.{goal_word}
use Rattle.goal_space.specs.Goals.{root_goal_of}
use Rattle.goal_rules.specs.Meaning.{meaning_of}
use Rattle.goal_rules.specs.declared.rules.Rules.{Rules}
use Rattle.job_turns.specs.Searches.{rules_mean}
use Rattle.job_scheduler.specs.Workers.{IsFreeWorkerOf}
use Rattle.job_scheduler.specs.Opening.{IsOpening}
use Rattle.job_scheduler.specs.Steps.{Steps, StepsAlone}
use Rattle.job_scheduler.specs.Crews.{IsOfCrew, ShowsEnd}
use Rattle.job_scheduler.specs.declared.stepped.Stepped.{Stepped}
use Rattle.job_scheduler.specs.declared.worker.Worker.{Worker}
use Rattle.job_outcome.specs.Outcomes.{ClosesSearch, IsOutcome}
use Rattle.job_outcome.specs.declared.outcome.Outcome.{Outcome}
use Rattle.job_engine.specs.declared.engine.Engine.{Engine}

-- ---- an engine and its workers

-- the query that the engine searches
abbrev pub query_of : Engine → Query
query_of engine = engine.rules.query.now

-- the worker is one of this engine, between two steps
abbrev pub IsWorker : Engine → Worker Rules → Type 0
IsWorker engine w = IsFreeWorkerOf rules_mean engine.scheduler.board engine.scheduler.root engine.scheduler.goal w

-- the engine has just begun, and this is its first worker: the root's goal is ready, and nothing else was done
pub record IsFresh (engine : Engine) (w : Worker Rules) : Type 0 where
  pub its : IsWorker engine w
  pub number : w.number ≡ 0
  pub opening : IsOpening engine.cells engine.scheduler.root (goal_word (root_goal_of (query_of engine))) (hands w.seat)

-- the last worker of a crew of n, which has seen the end
pub record IsLast (engine : Engine) (n : ℕ) (w : Worker Rules) : Type 0 where
  pub its : IsOfCrew rules_mean engine.scheduler.board engine.scheduler.root engine.scheduler.goal n w
  pub parts : (hands w.seat).parts ≡ 64
  pub ended : ShowsEnd (hands w.seat).looks engine.scheduler.root

-- ---- the steps of its workers

-- what the answer of a step means, for the worker with this number
abbrev pub StepsIn : Engine → (number : ℕ) → Hands Rules → Stepped → Hands Rules → Type 0
StepsIn engine number = Steps (meaning_of (query_of engine)) engine.cells engine.scheduler.root number

-- and for a worker that is alone
abbrev pub StepsAloneIn : Engine → Hands Rules → Stepped → Hands Rules → Type 0
StepsAloneIn engine = StepsAlone (meaning_of (query_of engine)) engine.cells

-- the looks show the root's goal finished
abbrev pub ShowsRoot : Engine → Hands Rules → Type 0
ShowsRoot engine v = ShowsClosed v.looks engine.scheduler.root

-- ---- what a search gives

-- a seat with these hands closed the board of so many cells, and this is what the board held
pub record GivesOutcome (q : Query) (cells place : ℕ) (v : Hands Rules) (outcome : Outcome) : Type 0 where
  pub board : ClosedBoard
  pub its : ClosesSearch q cells place v board
  pub is : IsOutcome q cells v.done board outcome

-- a seat with these hands closed the engine's board
abbrev pub GivesFor : Engine → Hands Rules → Outcome → Type 0
GivesFor engine = GivesOutcome (query_of engine) engine.cells engine.scheduler.root
