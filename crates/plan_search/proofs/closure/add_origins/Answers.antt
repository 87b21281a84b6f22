use Rattle.std.proofs.Common.{sym, ◌∙◌}
use Rattle.std.proofs.lemmas.Result.{on_ok_weaker}
use Rattle.plan_search.proofs.FoundSteps.{two_origins}
use Rattle.plan_search.proofs.closure.add_origins.Goals as goal

-- the first stays there when the second comes
pub returns-in_ok-add_origin-in-Two : goal.returns-in_ok-add_origin-in-Two
returns-in_ok-add_origin-in-Two c =
    on_ok_weaker c.add_origin-in-Two-2.result
    (two_origins c.args.query.now c.args.e c.args.found.now c.add_origin-in-Two.new.found
    c.add_origin-in-Two-2.new.found c.in-Two.left c.in-Two.right
    (sym c.children.ensures ∙ c.in-Two.is) c.in_ok-add_origin-in-Two.ensures)
    c.add_origin-in-Two-2.ensures
