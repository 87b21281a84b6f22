-- A seat with two parts is split.
use Rattle.std.proofs.Common.{sym, subst, arith}
use Rattle.atomic_table.specs.Table.{Splits}
use Rattle.board_rule.specs.declared.law.Setup.{Setup}
use Rattle.board_rule.specs.Seats.{parted, part}
use Rattle.board_rule.proofs.Looking.{Holds}
use Rattle.board_rule.proofs.Seating.{split_allowed}
use Rattle.goal_board.proofs.board.Board.split.Goals as goal

pub split_seat-requires : goal.split_seat-requires
split_seat-requires g c =
    let b = c.args.self.now in
    let s = c.args.seat.now.seat in
    let z = b.table.shared.table_id in
    let meaning = g.R.GoalRules.meaning in (
      c.requires.seat.same_table,
      (let sized = b.sized.0 in omega arith),
      subst (λ (k : Setup _). Splits (Holds meaning k.rules k.capacity) s.id s.me.0 (parted s.me.0) (part s.me.0))
          (sym b.keyed)
          (split_allowed meaning b.setup.rules b.setup.capacity s.id s.me.0 c.requires.parts),
    )
