-- A seat takes in another that holds no right.
use Rattle.std.proofs.Common.{sym, subst, ◌∙◌, arith}
use Rattle.atomic_table.specs.Table.{Joins}
use Rattle.board_rule.specs.declared.law.Setup.{Setup}
use Rattle.board_rule.specs.Seats.{joined, spent}
use Rattle.board_rule.specs.Plays.{Sat}
use Rattle.board_rule.proofs.Looking.{Holds}
use Rattle.goal_board.specs.Seats.{AreHandsOver, IsFree}
use Rattle.goal_board.proofs.Overs.{over_joined}
use Rattle.board_rule.proofs.Seating.{join_allowed}
use Rattle.goal_board.proofs.board.Board.join.Goals as goal

pub join_seat-requires : goal.join_seat-requires
join_seat-requires g c =
    let b = c.args.self.now in
    let s = c.args.seat.now.seat in
    let z = b.table.shared.table_id in
    let meaning = g.R.GoalRules.meaning in
    let o = c.args.other.seat in (
      c.requires.seats.0.same_table,
      c.requires.seats.1.same_table,
      c.args.other.bare,
      (let sized = b.sized.0 in omega arith),
      subst (λ (k : Setup _). Joins (Holds meaning k.rules k.capacity) s.id s.me.0 o.id o.me.0 (joined s.me.0 o.me.0)
          spent)
          (sym b.keyed)
          (join_allowed meaning b.setup.rules b.setup.capacity s.id o.id s.me.0 o.me.0 c.args.seat.now.awake (record {
            no_right = c.requires.rights;
            free = c.requires.seats.1.free.no_wait;
            walked = c.requires.seats.1.free.no_walk;
          })),
    )

pub returns-clause-seat : goal.returns-clause-seat
returns-clause-seat g c =
    let b = c.args.self.now in
    let s = c.args.seat.now.seat in
    let z = b.table.shared.table_id in
    let meaning = g.R.GoalRules.meaning in
    let told = c.join_seat.ensures in
    record {
      same_table = told.0 ∙ c.requires.seats.0.same_table;
      over = subst (λ (m : Sat _). AreHandsOver meaning b.setup.rules b.setup.capacity m.0) (sym told.2)
          (over_joined meaning b.setup.rules b.setup.capacity s.me.0 c.args.other.seat.me.0 c.requires.seats.0.over
          c.requires.seats.1.over);
      free = subst (λ (m : Sat _). IsFree m.0) (sym told.2)
          (assumption c.requires.seats.0.free);
    }
