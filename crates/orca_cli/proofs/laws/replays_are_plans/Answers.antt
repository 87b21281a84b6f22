use Rattle.query_core.specs.Keys.{root_of}
use Rattle.query_core.specs.declared.query.Query.{Query}
use Rattle.request_props.specs.Numbered.{root_request, IsWithinLimits}
use Rattle.plan_space.specs.Nodes.{Tree}
use Rattle.plan_space.specs.Least.{IsLeastPlan}
use Rattle.orca_cli.proofs.OneAnswer.{one_answer_of}
use Rattle.orca_cli.proofs.DumpAnswers.{one_dump_of}
use Rattle.orca_cli.proofs.DumpOutcomes.{dumps_replay, one_replay, replays_as_planned}
use Rattle.orca_cli.proofs.Outcomes.{one_of}
use Rattle.orca_cli.proofs.SectionTexts.{OneSections}
use Rattle.orca_cli.proofs.laws.replays_are_plans.Goals as goal

-- a text says one dump, and what makes the text of a plan one makes that of a replay one
pub returns : goal.returns
returns c =
    let answer = one_answer_of c.one_outcome.ensures.reading c.one_outcome.ensures.fault c.one_outcome.ensures.either
    c.links_are_one.ensures.links c.entries_fit_or_not.ensures in
    let sections : OneSections = record {
      closure = c.members_are_known.ensures.closure_is_one;
      goals = c.goal_lists_are_known.ensures.one;
      memo = c.memos_are_known.ensures.text;
      trace = λ q members goals text other within.
          c.traces_are_known.ensures.text q within.few_lists within.few_orders members goals text other;
      memo_line = c.memos_are_known.ensures.line;
      trace_line = c.traces_are_known.ensures.line;
    } in
    let least = λ (q : Query) (s t : Tree) (within : IsWithinLimits q) (one : IsLeastPlan q s)
    (other : IsLeastPlan q t).
    c.least_is_one.ensures q within.few_lists within.few_orders (root_of q) (root_request q) t s other one in
    let one = one_of answer sections least in
    let dumps = one_dump_of c.dumps_are_one.ensures.one c.dumps_are_one.ensures.fault c.dumps_are_one.ensures.either in
    record {
      planned = replays_as_planned one dumps;
      one = one_replay one dumps;
      dumped = dumps_replay one dumps c.dumps_bind_alike.ensures.binding c.dumps_bind_alike.ensures.bound;
    }
