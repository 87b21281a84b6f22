-- A load is allowed to any seat, and what it finds in a cell is an entry.
use Rattle.std.proofs.Common.{◌∙◌, arith, sym, subst}
use Rattle.goal_board.specs.Seats.{IsFree, AreHandsOver}
use Rattle.board_rule.proofs.Looking.{look_allowed}
use Rattle.goal_board.proofs.Overs.{over_looked}
use Rattle.goal_board.proofs.Seated.{still_awake}
use Rattle.goal_board.proofs.board.Board.look.Goals as goal

pub load-requires : goal.load-requires
load-requires g c = (
  c.requires.seat.same_table,
  (let h = c.requires.word in let sized = c.args.self.now.sized.0 in omega arith),
  look_allowed g.R.GoalRules.meaning _ _ _ _ _ _ c.args.seat.now.awake,
)

pub invariant_of-seat : goal.invariant_of-seat
invariant_of-seat g c =
    let told = c.load.ensures.2 in
    assumption (still_awake c.args.seat.now told.slots told.hands.hands_are c.args.seat.now.awake)

pub returns-clause-told : goal.returns-clause-told
returns-clause-told g c = c.load.ensures.2.hands

pub returns-clause-seat : goal.returns-clause-seat
returns-clause-seat g c =
    let b = c.args.self.now in
    let told = c.load.ensures.2.hands in
    let over = c.requires.seat.over in
    let free = c.requires.seat.free in
    record {
      same_table = c.load.ensures.0 ∙ c.requires.seat.same_table;
      over = subst (AreHandsOver g.R.GoalRules.meaning b.setup.rules b.setup.capacity) (sym told.hands_are)
          (over_looked g.R.GoalRules.meaning _ _ _ _ _ over told.moment);
      free = subst IsFree (sym told.hands_are) (assumption free);
    }
