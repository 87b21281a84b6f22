-- The child stands in the cell that was looked at.
use Rattle.std.proofs.Common.{[], ◌∷◌, sym, refl, ap, subst, ◌∙◌, inl}
use Rattle.board_rule.specs.declared.hands.Hands.{Hands}
use Rattle.board_rule.specs.Words.{cell_word}
use Rattle.board_rule.specs.Looks.{Looked}
use Rattle.board_tests.specs.Numbers.{HasOnly}
use Rattle.goal_board.specs.Seats.{hands}
use Rattle.goal_board.specs.declared.board.Right.{Right}
use Rattle.board_tests.proofs.Still.{right_seen, only_waited, parts_waited, place_waited}
use Rattle.board_tests.proofs.call_tests.wait_on.Goals as goal

pub wait_for-requires-clause-right : goal.wait_for-requires-clause-right
wait_for-requires-clause-right g c κs within =
    right_seen (g.R.GoalRules.meaning c.args.board.now.setup.rules) c.args.board.now.setup.capacity
    (hands c.args.seat.now)
    (hands c.word_at.new.seat) ((cell_word c.args.at, c.in-Some.word) ∷ []) c.args.right.now
    c.in-Some.ensures.answer.hands_are c.requires.right

pub wait_for-requires-clause-child : goal.wait_for-requires-clause-child
wait_for-requires-clause-child g c κs within = record {
  other = c.in-Some.word;
  some_other = c.in-Some.ensures.answer.some_word c.in-Some.word refl;
  stands = subst (λ (h : Hands _). Looked h.looks (cell_word c.args.at) c.in-Some.word)
      (sym c.in-Some.ensures.answer.hands_are) (inl (refl, refl));
  is_child = subst (λ w. (g.R.GoalRules.meaning c.args.board.now.setup.rules).child c.args.right.now.goal w)
      (sym c.if-word-child.false) c.requires.child;
}

pub returns-clause-only : goal.returns-clause-only
returns-clause-only g c =
    subst (λ (r : Right). HasOnly (hands c.wait_for.new.seat).rights r.place) (sym c.wait_for.ensures.right)
    (subst (HasOnly (hands c.wait_for.new.seat).rights) (sym (place_waited c.wait_for.result c.args.right.now))
    (only_waited c.args.board.now.setup.capacity (hands c.word_at.new.seat) c.args.right.now.place c.args.at
    c.wait_for.result
    (hands c.wait_for.new.seat) c.wait_for.ensures.answer
    (subst (λ (h : Hands _). HasOnly h.rights c.args.right.now.place) (sym c.in-Some.ensures.answer.hands_are)
    c.requires.only)))

pub returns-clause-parts : goal.returns-clause-parts
returns-clause-parts g c =
    parts_waited c.args.board.now.setup.capacity (hands c.word_at.new.seat) c.args.right.now.place c.args.at
    c.wait_for.result
    (hands c.wait_for.new.seat) c.wait_for.ensures.answer
    ∙ ap (λ (h : Hands _). h.parts) c.in-Some.ensures.answer.hands_are
