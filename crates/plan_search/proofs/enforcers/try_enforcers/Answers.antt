use Rattle.plan_search.proofs.Enforcing.{both_go}
use Rattle.plan_search.proofs.enforcers.try_enforcers.Goals as goal

pub returns : goal.returns
returns c = both_go c.args.search.query.now c.args.search.answers.now c.args.group c.args.wanted c.args.best.now
    c.try_enforcer_at.new.best c.try_enforcer_at-2.new.best
    c.try_enforcer_at.ensures c.try_enforcer_at-2.ensures
