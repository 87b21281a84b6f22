-- The only right is spent.
use Rattle.std.proofs.Common.{ap, ◌∙◌}
use Rattle.board_rule.specs.declared.hands.Hands.{Hands}
use Rattle.goal_board.specs.Seats.{hands}
use Rattle.board_tests.proofs.Still.{none_left}
use Rattle.board_tests.proofs.call_tests.finish_one.Goals as goal

pub returns-clause-rights : goal.returns-clause-rights
returns-clause-rights g c = ap (λ (h : Hands _). h.rights) c.finish.ensures.answer.wakes.hands_are
    ∙ none_left (hands c.args.seat.now).rights c.args.right.place c.requires.only
