-- A right is given up by its holder.
use Rattle.std.proofs.Common.{refl, ◌∙◌, arith}
use Rattle.board_rule.proofs.Suspending.{suspend_allowed}
use Rattle.goal_board.proofs.Overs.{all_changed}
use Rattle.board_rule.specs.May.{MaySuspend}
use Rattle.goal_board.specs.Seats.{hands}
use Rattle.goal_board.proofs.Seated.{lawful, still_awake, seat_beside}
use Rattle.goal_board.proofs.board.Board.release.Goals as goal

pub fetch_and-requires : goal.fetch_and-requires
fetch_and-requires g c =
    let b = c.args.self.now in (
      c.requires.seat.same_table,
      (let at = c.run_at.ensures in let near = c.requires.may.has.near in let sized = b.sized.0 in omega arith),
      suspend_allowed g.R.GoalRules.meaning _ _ _ _ _ _ _ c.run_at.ensures c.args.seat.now.awake
          (lawful b (λ _ capacity. MaySuspend capacity (hands c.args.seat.now) c.args.place) c.requires.may),
    )

pub invariant_of-seat : goal.invariant_of-seat
invariant_of-seat g c =
    let told = c.fetch_and.ensures.2 c.args.place c.run_at.ensures in
    assumption (still_awake c.args.seat.now told.slots told.hands.hands_are c.args.seat.now.awake)

pub returns-clause-told : goal.returns-clause-told
returns-clause-told g c = (c.fetch_and.ensures.2 c.args.place c.run_at.ensures).hands

pub returns-clause-seat : goal.returns-clause-seat
returns-clause-seat g c =
    let free = c.requires.seat.free in
    seat_beside (c.fetch_and.ensures.0 ∙ c.requires.seat.same_table) (returns-clause-told g c).hands_are refl refl refl
    (λ p e. omega arith)
    (all_changed _ _ _ _ c.requires.seat.over.all)
    (assumption free) c.requires.seat.over
