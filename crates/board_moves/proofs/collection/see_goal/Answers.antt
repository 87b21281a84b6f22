-- A goal in a cell is open or has an answer.
use Rattle.std.proofs.Common.{refl}
use Rattle.goal_board.specs.Seats.{hands}
use Rattle.board_moves.proofs.Seeing.{not_shown, sees_explored, sees_open, sees_absent}
use Rattle.board_moves.proofs.collection.see_goal.Goals as goal

pub returns-in-Some-answer-clause-sees : goal.returns-in-Some-answer-clause-sees
returns-in-Some-answer-clause-sees g c =
    let b = c.args.board.now in
    sees_explored (g.R.GoalRules.meaning b.setup.rules) b.setup.capacity (hands c.args.seat.now) c.args.goal
    c.in-Some.at
    (hands c.find.new.seat) c.in-Some-answer.field-0 (hands c.answer.new.seat) c.requires.some_goal
    c.in-Some.ensures.answer c.in-Some-answer.ensures.answer

pub returns-in-None-answer-clause-sees : goal.returns-in-None-answer-clause-sees
returns-in-None-answer-clause-sees g c =
    let b = c.args.board.now in (
      refl,
      sees_open (g.R.GoalRules.meaning b.setup.rules) b.setup.capacity (hands c.args.seat.now) c.args.goal c.in-Some.at
          (hands c.find.new.seat) (hands c.answer.new.seat) c.requires.some_goal c.in-Some.ensures.answer
          c.in-None-answer.ensures.answer,
    )

pub returns-in-None-clause-sees : goal.returns-in-None-clause-sees
returns-in-None-clause-sees g c =
    let b = c.args.board.now in (
      refl,
      sees_absent (g.R.GoalRules.meaning b.setup.rules) b.setup.capacity (hands c.args.seat.now) c.args.goal
          (hands c.find.new.seat) c.in-None.ensures.answer
          (not_shown (g.R.GoalRules.meaning b.setup.rules) b.setup.capacity (hands c.args.seat.now).looks c.args.goal
          c.find.result c.in-None.is c.find.ensures.shown),
    )
