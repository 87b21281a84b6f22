use Rattle.std.proofs.Common.{subst}
use Rattle.std.proofs.lemmas.Result.{on_ok_weaker}
use Rattle.plan_search.specs.Steps.{ContainsWordOf}
use Rattle.plan_search.proofs.Growing.{grows_not}
use Rattle.plan_search.proofs.FoundSteps.{member_result}
use Rattle.plan_search.proofs.closure.add_result.Goals as goal

-- a result of members is a member
pub add-requires : goal.add-requires
add-requires c = member_result c.args.query.now c.args.rule c.args.e c.args.bound c.args.n c.in-Some.other c.requires
    c.in-Some.ensures

-- a number is that of one result
pub returns-in-Some : goal.returns-in-Some
returns-in-Some c =
    on_ok_weaker c.add.result
    (λ added. record {
      grows = added.grows;
      holds = λ other has. subst (ContainsWordOf c.add.new.found)
          (c.results_are_candidates.ensures.one c.args.query.now c.args.rule c.args.e c.args.bound c.args.n
          c.in-Some.other other c.in-Some.ensures has) added.holds;
    })
    c.add.ensures

pub returns-in-None : goal.returns-in-None
returns-in-None c = record {
  grows = grows_not c.args.query.now c.args.found.now;
  holds = λ other has. absurd (c.in-None.ensures other has);
}
