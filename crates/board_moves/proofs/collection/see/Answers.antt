-- A word is found or not, and then its goal is looked at.
use Rattle.std.proofs.Common.{◌≢◌, sym, subst}
use Rattle.goal_board.specs.Seats.{hands}
use Rattle.board_moves.proofs.Seeing.{not_shown, sees_none, sees_in, sees_goal}
use Rattle.board_moves.proofs.collection.see.Goals as goal

pub see_goal-requires-clause-some_goal : goal.see_goal-requires-clause-some_goal
see_goal-requires-clause-some_goal g c κs within =
    subst (λ x. x ≢ 0) (sym c.goal_of.ensures) (c.requires.group.some_goal c.args.word c.requires.word)

pub returns-in-Some-clause-sees : goal.returns-in-Some-clause-sees
returns-in-Some-clause-sees g c =
    let b = c.args.board.now in
    let meaning = g.R.GoalRules.meaning b.setup.rules in
    sees_goal meaning b.setup.capacity (g.W.Words.has c.args.group.now) (g.W.Members.goal_of c.args.group.now)
    (hands c.args.seat.now) c.args.word c.goal_of.result (hands c.find.new.seat) c.see_goal.result
    (hands c.see_goal.new.seat)
    c.requires.word c.goal_of.ensures (sees_in meaning b.setup.capacity (hands c.args.seat.now) c.args.word
    c.in-Some.field-0
    (hands c.find.new.seat) c.in-Some.ensures.answer) c.see_goal.ensures.sees

pub returns-in-None-clause-sees : goal.returns-in-None-clause-sees
returns-in-None-clause-sees g c =
    let b = c.args.board.now in
    let meaning = g.R.GoalRules.meaning b.setup.rules in
    sees_none meaning b.setup.capacity (hands c.args.seat.now) c.args.word (hands c.find.new.seat)
    c.in-None.ensures.answer
    (not_shown meaning b.setup.capacity (hands c.args.seat.now).looks c.args.word c.find.result c.in-None.is
    c.find.ensures.shown)
