use Rattle.std.proofs.lemmas.Result.{on_ok_weaker}
use Rattle.plan_search.proofs.FoundSteps.{all_steps}
use Rattle.plan_search.proofs.closure.add_steps.Goals as goal

-- what is found stays found
pub returns : goal.returns
returns c =
    on_ok_weaker c.add_bound_results.result
    (all_steps c.args.query.now c.args.e c.args.words.now c.args.found.now c.add_origins.new.found
    c.add_results.new.found c.add_bound_results.new.found
    c.in_ok-add_origins.ensures c.in_ok-add_results.ensures)
    c.add_bound_results.ensures
