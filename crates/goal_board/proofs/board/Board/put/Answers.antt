-- An entry is put where its probe ended.
use Rattle.std.proofs.Common.{◌∙◌, arith}
use Rattle.board_rule.specs.May.{MayPut}
use Rattle.goal_board.specs.Seats.{hands}
use Rattle.board_rule.proofs.Putting.{put_allowed}
use Rattle.goal_board.proofs.Overs.{over_placed}
use Rattle.goal_board.proofs.Seated.{lawful, awake_either_way, seat_tried}
use Rattle.goal_board.proofs.board.Board.put.Goals as goal

pub compare_exchange-requires : goal.compare_exchange-requires
compare_exchange-requires g c =
    let b = c.args.self.now in
    let may = lawful b (λ rules capacity. MayPut (g.R.GoalRules.meaning rules) capacity (hands c.args.seat.now)
    c.args.place
    c.args.word) c.requires.may in (
      c.requires.seat.same_table,
      (let at = c.cell_at.ensures in let near = c.requires.may.near in let sized = b.sized.0 in omega arith),
      put_allowed g.R.GoalRules.meaning _ _ _ _ _ _ _ _ c.cell_at.ensures c.args.seat.now.awake may,
    )

pub invariant_of-seat : goal.invariant_of-seat
invariant_of-seat g c =
    let s = c.args.seat.now in
    let told = c.compare_exchange.ensures.2 c.args.place c.cell_at.ensures in
    assumption (awake_either_way s told.slots told.hands.hit told.hands.miss s.awake s.awake)

pub returns-clause-told : goal.returns-clause-told
returns-clause-told g c = (c.compare_exchange.ensures.2 c.args.place c.cell_at.ensures).hands

pub returns-clause-seat : goal.returns-clause-seat
returns-clause-seat g c =
    let over = c.requires.seat.over in
    let free = c.requires.seat.free in
    seat_tried (c.compare_exchange.ensures.0 ∙ c.requires.seat.same_table) (returns-clause-told g c)
    (over_placed g.R.GoalRules.meaning _ _ _ _ _ over c.requires.may.enters)
    (assumption free) over free
