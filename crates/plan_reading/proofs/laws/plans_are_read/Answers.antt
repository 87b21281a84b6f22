-- The text of a plan is made of its lines.
use Rattle.std.proofs.Common.{sym}
use Rattle.plan_reading.proofs.InPlace.{plan_formed}
use Rattle.plan_reading.proofs.PlanLines.{outline_is}
use Rattle.plan_reading.proofs.laws.plans_are_read.Goals as goal

pub returns-clause-read : goal.returns-clause-read
returns-clause-read c = λ q t is few. plan_formed q t is few

pub returns-clause-spelled : goal.returns-clause-spelled
returns-clause-spelled c = λ q t. sym (outline_is q 0 t)
