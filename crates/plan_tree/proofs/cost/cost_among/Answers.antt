use Rattle.plan_tree.proofs.Costs.{cost_by}
use Rattle.plan_tree.proofs.cost.cost_among.Goals as goal

-- the request says what the enforcer asks for
pub returns-clause-value : goal.returns-clause-value
returns-clause-value c = λ g rows.
    cost_by c.args.query.now c.args.enforcer g c.args.request c.asked_by.result c.cost_over.result
    c.asked_by.ensures.only (c.cost_over.ensures.value g rows)
