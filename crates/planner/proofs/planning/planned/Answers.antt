use Rattle.std.proofs.Common.{rules}
use Rattle.planner.proofs.Rooms.{room_of}
use Rattle.planner.proofs.planning.planned.Goals as goal

-- the least plan with its nodes
pub returns-in_ok-nodes-in-Least : goal.returns-in_ok-nodes-in-Least
returns-in_ok-nodes-in-Least c = (
  room_of c.args.query c.args.capacity c.args.outcome.now c.in-Done.searched c.in-Done.is c.requires.ends,
  search rules,
)

-- there is none
pub returns-in-NoPlan : goal.returns-in-NoPlan
returns-in-NoPlan c = (
  room_of c.args.query c.args.capacity c.args.outcome.now c.in-Done.searched c.in-Done.is c.requires.ends,
  rw c.in-NoPlan.is at c.in_ok-plan.ensures,
)
