use Rattle.plan_search.proofs.Finding.{best_is_answer}
use Rattle.plan_search.proofs.best.find.Goals as goal

pub returns : goal.returns
returns c =
    best_is_answer c.args.query.now c.args.answers.now c.args.group c.args.wanted c.args.list.now
    c.try_enforcers.new.best c.try_all.new.best
    (c.best_of_all_is_least.ensures c.args.query.now) c.requires.fits c.requires.listed c.try_enforcers.ensures
    c.try_all.ensures
