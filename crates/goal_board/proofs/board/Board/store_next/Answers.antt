-- A seat that puts a wait in stores its waiter's next word.
use Rattle.std.proofs.Common.{sym, refl, ap, ◌∙◌, arith}
use Rattle.board_rule.specs.Words.{next_word}
use Rattle.goal_board.specs.Seats.{hands, the_wait}
use Rattle.board_rule.proofs.Linking.{link_allowed}
use Rattle.goal_board.proofs.Overs.{all_changed}
use Rattle.goal_board.proofs.Seated.{still_awake, in_call_same}
use Rattle.goal_board.proofs.board.Board.store_next.Goals as goal

pub store-requires : goal.store-requires
store-requires g c =
    let b = c.args.self.now in (
      c.requires.seat.same_table,
      (let at = c.next_at.ensures in let near = c.requires.near in let sized = b.sized.0 in omega arith),
      link_allowed g.R.GoalRules.meaning _ _ _ _ _ _ (the_wait (hands c.args.seat.now)) _ _ (c.next_at.ensures
          ∙ ap next_word (sym c.requires.waiter)) c.first_name.ensures c.args.seat.now.awake c.requires.may,
    )

pub invariant_of-seat : goal.invariant_of-seat
invariant_of-seat g c =
    let told = c.store.ensures.2 (the_wait (hands c.args.seat.now)) c.args.head c.requires.may.is c.requires.may.seen in
    assumption (still_awake c.args.seat.now told.slots told.hands c.args.seat.now.awake)

pub returns-clause-hands : goal.returns-clause-hands
returns-clause-hands g c = (c.store.ensures.2 (the_wait (hands c.args.seat.now)) c.args.head c.requires.may.is
    c.requires.may.seen).hands

pub returns-clause-seat : goal.returns-clause-seat
returns-clause-seat g c = in_call_same (c.store.ensures.0 ∙ c.requires.seat.same_table) (returns-clause-hands g c) refl
    refl refl (all_changed _ _ _ _ c.requires.seat.over.all) c.requires.seat.over
