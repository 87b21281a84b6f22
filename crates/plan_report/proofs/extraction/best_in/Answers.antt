use Rattle.plan_report.proofs.Chosen.{some_told, none_told}
use Rattle.plan_report.proofs.extraction.best_in.Goals as goal

pub returns-in-Some : goal.returns-in-Some
returns-in-Some c q k tells = some_told tells.answer c.args.told c.in-Some.cost c.in-Some.is tells.cost tells.node

pub returns-in-None : goal.returns-in-None
returns-in-None c q k tells = none_told tells.answer c.args.told c.in-None.is tells.cost
