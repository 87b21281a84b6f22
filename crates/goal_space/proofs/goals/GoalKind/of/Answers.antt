use Rattle.goal_space.proofs.Decoded.{found_exactly}
use Rattle.goal_space.proofs.goals.GoalKind.of.Goals as goal

pub returns-in-Some : goal.returns-in-Some
returns-in-Some c = record {
  exact = found_exactly c.goal_kinds_are_one.ensures.one c.goal_kinds_are_one.ensures.fits c.goals_are_one.ensures.one
      c.args.word.0 c.in-Some.parts c.in-Some.ensures
      c.kind_of.result c.kind_of.ensures;
}
