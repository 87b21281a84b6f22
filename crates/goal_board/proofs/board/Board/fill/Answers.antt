-- The full word is set by a seat that found every cell taken by another word.
use Rattle.std.proofs.Common.{arith}
use Rattle.board_rule.specs.May.{MayFill}
use Rattle.goal_board.specs.Seats.{hands}
use Rattle.board_rule.proofs.Filling.{fill_allowed}
use Rattle.goal_board.proofs.Seated.{lawful}
use Rattle.goal_board.proofs.board.Board.fill.Goals as goal

pub store-requires : goal.store-requires
store-requires g c =
    let b = c.args.self.now in
    let may = lawful b (λ rules capacity. MayFill (g.R.GoalRules.meaning rules) capacity (hands c.args.seat.now))
    c.requires.may in (
      c.requires.seat.same_table,
      (let sized = b.sized.0 in omega arith),
      fill_allowed g.R.GoalRules.meaning _ _ _ _ _ c.args.seat.now.awake may,
    )
