-- A goal that a look found in the cell is claimed.
use Rattle.std.proofs.Common.{refl, ◌∙◌, arith}
use Rattle.board_rule.specs.Words.{run_word}
use Rattle.board_rule.specs.May.{MayClaim}
use Rattle.goal_board.specs.Seats.{hands}
use Rattle.board_rule.proofs.Claiming.{claim_allowed}
use Rattle.goal_board.proofs.Overs.{over_beside, all_changed}
use Rattle.goal_board.proofs.Seated.{lawful, awake_either_way, seat_tried}
use Rattle.goal_board.proofs.board.Board.hold.Goals as goal

pub compare_exchange-requires : goal.compare_exchange-requires
compare_exchange-requires g c =
    let b = c.args.self.now in
    let may = lawful b (λ rules capacity. MayClaim (g.R.GoalRules.meaning rules) capacity (hands c.args.seat.now)
    c.args.place)
    c.requires.may in (
      c.requires.seat.same_table,
      (let at = c.run_at.ensures in let near = c.requires.may.near in let sized = b.sized.0 in omega arith),
      claim_allowed g.R.GoalRules.meaning _ _ _ _ _ _ _ c.run_at.ensures c.args.seat.now.awake may,
    )

pub invariant_of-seat : goal.invariant_of-seat
invariant_of-seat g c =
    let s = c.args.seat.now in
    let told = c.compare_exchange.ensures.2 c.args.place c.run_at.ensures in
    assumption (awake_either_way s told.slots told.hands.hit told.hands.miss s.awake s.awake)

pub returns-clause-told : goal.returns-clause-told
returns-clause-told g c = (c.compare_exchange.ensures.2 c.args.place c.run_at.ensures).hands

pub returns-clause-seat : goal.returns-clause-seat
returns-clause-seat g c =
    let over = c.requires.seat.over in
    let free = c.requires.seat.free in
    seat_tried (c.compare_exchange.ensures.0 ∙ c.requires.seat.same_table) (returns-clause-told g c)
    (over_beside g.R.GoalRules.meaning _ _ _ _ (run_word c.args.place) 0 refl refl refl (λ p e. omega arith)
    (all_changed _ _ _ _ over.all) over)
    (assumption free) over free
