use Rattle.std.proofs.lemmas.Result.{on_ok_weaker}
use Rattle.plan_search.proofs.Growing.{added}
use Rattle.plan_search.proofs.closure.add.Goals as goal

pub returns : goal.returns
returns c =
    on_ok_weaker c.insert.result (added c.args.query.now c.args.found.now c.insert.new.self c.make.result.0 c.args.e
    c.make.ensures.number c.requires)
    c.insert.ensures
