-- The holder of a goal's right stores its worker.
use Rattle.std.proofs.Common.{◌∙◌, arith}
use Rattle.board_rule.proofs.Answering.{store_who_allowed}
use Rattle.goal_board.proofs.Seated.{lawful_right, still_awake, seat_stored}
use Rattle.goal_board.proofs.board.Board.store_who.Goals as goal

pub store-requires : goal.store-requires
store-requires g c =
    let b = c.args.self.now in (
      c.requires.seat.same_table,
      (let at = c.who_at.ensures in let near = c.requires.may.near in let sized = b.sized.0 in omega arith),
      store_who_allowed g.R.GoalRules.meaning _ _ _ _ _ _ _ _ c.who_at.ensures c.args.seat.now.awake
          (lawful_right b c.requires.may),
    )

pub invariant_of-seat : goal.invariant_of-seat
invariant_of-seat g c =
    let told = c.store.ensures.2 c.args.place c.who_at.ensures in
    assumption (still_awake c.args.seat.now told.slots told.hands c.args.seat.now.awake)

pub returns-clause-hands : goal.returns-clause-hands
returns-clause-hands g c = (c.store.ensures.2 c.args.place c.who_at.ensures).hands

pub returns-clause-seat : goal.returns-clause-seat
returns-clause-seat g c = seat_stored (c.store.ensures.0 ∙ c.requires.seat.same_table) _ _ (returns-clause-hands g c)
    c.requires.seat.over c.requires.seat.free
