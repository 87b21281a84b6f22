-- Which best answers a turn finds.
use Rattle.std.specs.Prelude.{◌≡◌, ℕ, Option, Bool}
use Rattle.query_core.specs.declared.words.Key.{Key}
use Rattle.query_core.specs.declared.words.KeyParts.{KeyParts}
use Rattle.query_core.specs.declared.expressions.PhysicalExpr.{PhysicalExpr}
use Rattle.xform_rules.specs.Closure.{IsMember}
use Rattle.request_props.specs.declared.request.Request.{Request}
use Rattle.best_answers.specs.Nodes.{all_nodes}
use Rattle.best_answers.specs.Best.{IsBest, IsBestAsked}
use Rattle.best_answers.specs.declared.best.Best.{Best}
use Rattle.goal_board.specs.declared.board.Seat.{Seat}
use Rattle.goal_board.specs.Seats.{hands}
use Rattle.goal_space.specs.Children.{IsChildGoal}
use Rattle.goal_space.specs.Answers.{IsAnswerTo}
use Rattle.goal_space.specs.declared.goals.GoalKind.{GoalKind}
use Rattle.goal_space.specs.declared.goals.GoalKind.TheVariants.{OptE}
use Rattle.goal_rules.specs.declared.rules.Rules.{Rules}
use Rattle.job_turns.specs.Choices.{Chooses, PutsChildren, IsAskedByChild, IsGoalAsked, IsGoalIn, IsBestIn}
use Rattle.job_turns.specs.Requests.{IsImplemented, IsMemberGoal, IsBestOfMembers, IsGoalOfMember, IsBestOfMember}
use Rattle.job_turns.specs.Requests.{IsEnforcerGoal, IsEnforcerGoalAt, IsPlanGoal, enforcer_at, first_enforcers}
use Rattle.job_turns.specs.declared.board_search.BoardSearch.{BoardSearch}
use Rattle.job_turns.specs.declared.job_turn.JobTurn.{JobTurn}
use Rattle.job_turns.specs.declared.known_best.KnownBest.{KnownBest}
use Rattle.job_turns.specs.declared.modes.WantedNative.{WantedNative}

-- the looks of the seat show all members of the group in cells
abbrev pub ShowsImplemented : BoardSearch → Seat Rules → KeyParts → Type 0
ShowsImplemented search s group =
    IsImplemented search.query.now search.board.now.setup.capacity (hands s).looks group

-- the goal of what is asked, if something is, is a child of the turn's goal
abbrev pub IsTurnAsked : {H : Type 0} → BoardSearch → JobTurn H → Option (Key × Request) → Type 0
IsTurnAsked search turn asked = IsAskedByChild search.query.now turn.job.right.goal asked

module _ {H : Type 0} (search : BoardSearch) (before : JobTurn H) where
  -- children of the goal were put in, or found in cells, or one of them found no cell; the right is as it was
  pub record TurnPutsChildren (capacity_left : Bool) (after : JobTurn H) : Type 0 where
    pub same_right : after.job.right ≡ before.job.right
    pub puts : PutsChildren search.query.now search.board.now.setup.capacity (hands before.seat.now) before.job.right
        capacity_left (hands after.seat.now)

  -- these goals were awaited, and the answer over theirs is one of these; or one of the goals found no cell
  abbrev TurnChooses : (Wanted : GoalKind → Type 0) → (Is : Option Best → Type 0) → Option KnownBest → JobTurn H
      → Type 0
  TurnChooses Wanted Is found after = Chooses search.query.now search.board.now.setup.capacity (hands before.seat.now)
      before.job.right Wanted Is found (hands after.seat.now) after.job.right

  -- the answer of a child
  abbrev pub FindsAnswer : GoalKind → Option KnownBest → JobTurn H → Type 0
  FindsAnswer child = TurnChooses (λ goal. goal ≡ child) (IsAnswerTo search.query.now child)

  -- ---- of an expression

  -- the best answer for what is asked of a child, if something is
  abbrev pub FindsBestAsked : Option (Key × Request) → Option KnownBest → JobTurn H → Type 0
  FindsBestAsked asked = TurnChooses (IsGoalAsked search.query.now asked) (IsBestAsked search.query.now asked)

  -- the best answer of the expression in its mode
  abbrev pub FindsBestInMode : WantedNative → Option KnownBest → JobTurn H → Type 0
  FindsBestInMode native = TurnChooses (IsGoalIn search.query.now native.expr native.wanted native.mode)
      (IsBestIn search.query.now native.expr native.wanted native.mode)

  -- the best answer of the expression in all its modes
  abbrev pub FindsBestMode : PhysicalExpr → Request → Option KnownBest → JobTurn H → Type 0
  FindsBestMode e wanted = TurnChooses (IsChildGoal (IsMember search.query.now) search.query.now (OptE e wanted))
      (IsAnswerTo search.query.now (OptE e wanted))

  -- ---- of a group

  -- the best answer of the expression, if it is a member that may serve the request
  abbrev pub FindsBestOfMember : PhysicalExpr → Request → Option KnownBest → JobTurn H → Type 0
  FindsBestOfMember e wanted = TurnChooses (IsGoalOfMember search.query.now e wanted)
      (IsBestOfMember search.query.now e wanted)

  -- the best answer of the group's members
  abbrev pub FindsBestMember : KeyParts → Request → Option KnownBest → JobTurn H → Type 0
  FindsBestMember group wanted = TurnChooses (IsMemberGoal search.query.now group wanted)
      (IsBestOfMembers search.query.now group wanted)

  -- the best answer of the enforcer for the request at this place, if there is one
  abbrev pub FindsBestEnforcerAt : KeyParts → Request → (place : ℕ) → Option KnownBest → JobTurn H → Type 0
  FindsBestEnforcerAt group wanted place = TurnChooses (IsEnforcerGoalAt group wanted place)
      (IsBest search.query.now group wanted (enforcer_at wanted place))

  -- the best answer of the enforcers for the request
  abbrev pub FindsBestEnforcer : KeyParts → Request → Option KnownBest → JobTurn H → Type 0
  FindsBestEnforcer group wanted = TurnChooses (IsEnforcerGoal search.query.now group wanted)
      (IsBest search.query.now group wanted (first_enforcers wanted))

  -- the best answer of all nodes
  abbrev pub FindsBestNode : KeyParts → Request → Option KnownBest → JobTurn H → Type 0
  FindsBestNode group wanted = TurnChooses (IsPlanGoal search.query.now group wanted)
      (IsBest search.query.now group wanted all_nodes)
