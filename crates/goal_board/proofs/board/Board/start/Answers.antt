-- A board whose words are all 0 is sound.
use Rattle.std.proofs.Common.{[], ◌∷◌, sym, subst, ◌∙◌}
use Rattle.board_rule.specs.Soundness.{IsSound}
use Rattle.board_rule.specs.Seats.{opening_hands}
use Rattle.board_rule.proofs.Opening.{start_sound}
use Rattle.goal_board.proofs.board.Board.start.Goals as goal

pub of_words-requires : goal.of_words-requires
of_words-requires g c =
    let meaning = g.R.GoalRules.meaning in
    subst (λ ws. IsSound (meaning c.args.rules) c.args.rules c.args.capacity ws
    (opening_hands c.args.rules c.args.capacity ∷ []))
    (sym (c.as_slice.ensures.value ∙ c.in_ok-words.ensures.items_if_clones_equal (λ y e. e)))
    (start_sound meaning c.args.rules c.args.capacity)
