-- What the work of a job does over its board: the seat before and after, and the turn before and after.
use Rattle.std.specs.Prelude.{Bool}
use Rattle.query_core.specs.Expressions.{word_of}
use Rattle.query_core.specs.declared.expressions.ExprParts.{ExprParts}
use Rattle.query_core.specs.declared.words.KeyParts.{KeyParts}
use Rattle.xform_rules.specs.Closure.{IsMember}
use Rattle.board_rule.specs.Looks.{ShowsEntry}
use Rattle.goal_board.specs.declared.board.Seat.{Seat}
use Rattle.goal_board.specs.Seats.{hands}
use Rattle.board_moves.specs.declared.job.Job.{Job}
use Rattle.board_moves.specs.declared.progress.Progress.{Progress}
use Rattle.board_moves.specs.declared.settled.Settled.{Settled}
use Rattle.board_moves.specs.Moves.{Awaits}
use Rattle.board_moves.specs.Collects.{Settles}
use Rattle.goal_space.specs.Children.{IsLogicalIn}
use Rattle.goal_space.specs.Entries.{NamesGoal}
use Rattle.goal_space.specs.Words.{goal_word}
use Rattle.goal_space.specs.declared.goals.GoalKind.{GoalKind}
use Rattle.goal_space.specs.declared.goals.GoalKind.TheVariants.{Exp}
use Rattle.goal_rules.specs.Explored.{explored, origin_word, IsLogicalWord}
use Rattle.goal_rules.specs.Meaning.{meaning_of}
use Rattle.goal_rules.specs.declared.rules.Rules.{Rules}
use Rattle.job_turns.specs.Works.{IsAskedOf, IsChildOf, AwaitsGoals, PutsMembers, WorksOn}
use Rattle.job_turns.specs.declared.board_search.BoardSearch.{BoardSearch}
use Rattle.job_turns.specs.declared.job_turn.JobTurn.{JobTurn}

-- ---- the goal of a turn

module _ {H : Type 0} (search : BoardSearch) (turn : JobTurn H) where
  -- the turn is one of this goal
  abbrev pub IsTurnOf : GoalKind → Type 0
  IsTurnOf goal = NamesGoal search.query.now turn.job.right.goal goal

  -- its goal has this child
  abbrev pub IsTurnChild : GoalKind → Type 0
  IsTurnChild child = IsChildOf search.query.now turn.job.right.goal child

  -- its goal has these children
  abbrev pub AreTurnChildren : (GoalKind → Type 0) → Type 0
  AreTurnChildren Wanted = (child : GoalKind) → Wanted child → IsTurnChild child

-- ---- what a turn does

module _ {H : Type 0} (search : BoardSearch) (before : JobTurn H) where
  -- the goal's work is done, or waits, or found no cell
  abbrev pub TurnWorks : GoalKind → Progress → JobTurn H → Type 0
  TurnWorks goal progress after = WorksOn search.query.now search.board.now.setup.capacity (hands before.seat.now)
      before.job.right goal progress (hands after.seat.now) after.job.right

  -- the child is finished and has this answer, or is waited for, or found no cell
  abbrev pub TurnAwaitsOne : GoalKind → Progress → JobTurn H → Type 0
  TurnAwaitsOne child progress after =
      Awaits (meaning_of search.query.now) search.board.now.setup.capacity (hands before.seat.now) before.job.right
      (goal_word child) progress (hands after.seat.now) after.job.right

  -- these goals were awaited, or one of them found no cell
  abbrev pub TurnAwaits : (Wanted : GoalKind → Type 0) → Bool → JobTurn H → Type 0
  TurnAwaits Wanted capacity_left after = AwaitsGoals search.query.now search.board.now.setup.capacity
      (hands before.seat.now) before.job.right Wanted capacity_left (hands after.seat.now) after.job.right

-- ---- what a seat puts in for a job

module _ (search : BoardSearch) (job : Job) where
  -- the job's goal asks for the member
  abbrev pub AsksForMember : ExprParts → Type 0
  AsksForMember e = IsAskedOf search.query.now job.right.goal e

  -- the job's goal asks for all of these members
  abbrev pub AsksForAll : (ExprParts → Type 0) → Type 0
  AsksForAll Wanted = (e : ExprParts) → Wanted e → AsksForMember e

-- these members were put in, or one of them found no cell
abbrev pub Puts : BoardSearch → Seat Rules → Job → (Wanted : ExprParts → Type 0) → Bool → Seat Rules → Type 0
Puts search s job Wanted capacity_left t =
    PutsMembers search.query.now search.board.now.setup.capacity (hands s) job.right Wanted capacity_left (hands t)

-- ---- what the looks of a seat show of a group

module _ (search : BoardSearch) (s : Seat Rules) (group : KeyParts) where
  -- they show its origin
  abbrev pub ShowsOrigin : Type 0
  ShowsOrigin = ShowsEntry (meaning_of search.query.now) search.board.now.setup.capacity (hands s).looks
      (origin_word search.query.now group)

  -- they show all its logical members
  abbrev pub ShowsLogical : Type 0
  ShowsLogical = (e : ExprParts) → IsLogicalIn (IsMember search.query.now) group e
      → ShowsEntry (meaning_of search.query.now) search.board.now.setup.capacity (hands s).looks (word_of e)

  -- what the double collection of the group found
  abbrev pub SeatSettles : Settled → Seat Rules → Type 0
  SeatSettles settled t =
      Settles (meaning_of search.query.now) search.board.now.setup.capacity (IsLogicalWord search.query.now group)
      explored (hands s) (goal_word (Exp group)) settled (hands t)
