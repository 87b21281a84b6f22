-- The probe made this many steps over cells of other words.
use Rattle.goal_board.specs.Seats.{IsSeatOf, hands}
use Rattle.goal_board.proofs.Probes.{Probes}
use Rattle.goal_board.proofs.board.Board.find.Given as goal

abbrev pub invariant-loop-step : goal.invariant-loop-step
invariant-loop-step g l = record {
  seat : IsSeatOf g.R.GoalRules.meaning l.self l.seat;
  probes : Probes g.R.GoalRules.meaning l.self.setup.rules l.self.setup.capacity (hands l.initial.seat) l.word l._step
      l.place
      (hands l.seat);
}
