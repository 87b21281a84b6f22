use Rattle.plan_space.proofs.MotionLaws.{motion_brings, none_moves, motion_serves, enforcer_for, enforcer_asks}
use Rattle.plan_space.proofs.motions.motions_are_known.Goals as goal

pub returns : goal.returns
returns c = record {
  bring = motion_brings;
  none = none_moves;
  serve = motion_serves;
  enforcers = enforcer_for;
  asks = enforcer_asks;
}
