-- It is a worker of the engine, with the parts that it had.
use Rattle.std.proofs.Common.{◌≡◌}
use Rattle.goal_board.specs.Seats.{hands}
use Rattle.job_engine.specs.Searching.{IsWorker}
use Rattle.engine_tests.proofs.turn_tests.step_until_end.Given as goal

abbrev pub invariant-loop-step : goal.invariant-loop-step
invariant-loop-step l = record {
  its : IsWorker l.engine l.worker;
  parts : (hands l.worker.seat).parts ≡ (hands l.initial.worker.seat).parts;
}
