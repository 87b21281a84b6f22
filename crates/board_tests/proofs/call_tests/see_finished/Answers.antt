-- The word and then the closed head that were looked at show the goal finished.
use Rattle.std.proofs.Common.{[], ◌∷◌, Some, subst}
use Rattle.board_rule.specs.Words.{cell_word, head_word, cost_word, node_word}
use Rattle.goal_board.specs.Seats.{hands}
use Rattle.goal_board.specs.Calls.{ReadsCell}
use Rattle.board_tests.proofs.Still.{right_seen, answer_shows}
use Rattle.board_tests.proofs.call_tests.see_finished.Goals as goal

pub returns-clause-right : goal.returns-clause-right
returns-clause-right g c =
    let meaning = g.R.GoalRules.meaning c.args.board.now.setup.rules in
    let capacity = c.args.board.now.setup.capacity in
    let answer = c.in-Some-answer.ensures.answer in
    right_seen meaning capacity (hands c.word_at.new.seat) (hands c.answer.new.seat)
    ((node_word c.args.at, c.in-Some-answer.answer.node)
    ∷ ((cost_word c.args.at, c.in-Some-answer.answer.cost) ∷ ((head_word c.args.at, answer.head) ∷ [])))
    c.args.right.now answer.hands_are
    (right_seen meaning capacity (hands c.args.seat.now) (hands c.word_at.new.seat)
    ((cell_word c.args.at, c.in-Some.word) ∷ []) c.args.right.now c.in-Some.ensures.answer.hands_are
    c.requires.right)

pub returns-clause-finished : goal.returns-clause-finished
returns-clause-finished g c =
    answer_shows (g.R.GoalRules.meaning c.args.board.now.setup.rules) c.args.board.now.setup.capacity
    (hands c.args.seat.now)
    (hands c.word_at.new.seat) (hands c.answer.new.seat) c.args.at c.args.goal c.in-Some-answer.answer
    c.requires.near
    (subst (λ w. ReadsCell (hands c.args.seat.now) c.args.at (Some w) (hands c.word_at.new.seat)) c.if-word-goal.false
    c.in-Some.ensures.answer) c.in-Some-answer.ensures.answer
