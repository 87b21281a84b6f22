-- All three are workers of the engine, with the parts that they had.
use Rattle.std.proofs.Common.{◌≡◌}
use Rattle.goal_board.specs.Seats.{hands}
use Rattle.job_engine.specs.Searching.{IsWorker}
use Rattle.engine_tests.proofs.turn_tests.step_by_draws.Given as goal

abbrev pub invariant-loop-turn : goal.invariant-loop-turn
invariant-loop-turn l = record {
  first : IsWorker l.engine l.first;
  second : IsWorker l.engine l.second;
  third : IsWorker l.engine l.third;
  first_parts : (hands l.first.seat).parts ≡ (hands l.initial.first.seat).parts;
  second_parts : (hands l.second.seat).parts ≡ (hands l.initial.second.seat).parts;
  third_parts : (hands l.third.seat).parts ≡ (hands l.initial.third.seat).parts;
}
