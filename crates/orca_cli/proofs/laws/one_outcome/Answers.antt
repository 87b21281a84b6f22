use Rattle.query_core.specs.Keys.{root_of}
use Rattle.query_core.specs.declared.query.Query.{Query}
use Rattle.request_props.specs.Numbered.{root_request, IsWithinLimits}
use Rattle.plan_space.specs.Nodes.{Tree}
use Rattle.plan_space.specs.Least.{IsLeastPlan}
use Rattle.orca_cli.proofs.CheckOutcomes.{one_check_of}
use Rattle.orca_cli.proofs.OneAnswer.{one_answer_of}
use Rattle.orca_cli.proofs.BatchOutcomes.{one_batch_of, lines_as_planned}
use Rattle.orca_cli.proofs.Outcomes.{one_outcome_of, one_generated_of}
use Rattle.orca_cli.proofs.SectionTexts.{OneSections}
use Rattle.orca_cli.proofs.StagedOutcomes.{one_stages_of}
use Rattle.orca_cli.proofs.laws.one_outcome.Goals as goal

-- a text has one reading, a query one list of links, one least plan, one closure and one list of goals, and it has room
-- or not, so the text of a run is one
pub returns : goal.returns
returns c =
    let answer = one_answer_of c.one_outcome.ensures.reading c.one_outcome.ensures.fault c.one_outcome.ensures.either
    c.links_are_one.ensures.links c.entries_fit_or_not.ensures in
    let sections : OneSections = record {
      closure = c.members_are_known.ensures.closure_is_one;
      goals = c.goal_lists_are_known.ensures.one;
      memo = c.memos_are_known.ensures.text;
      trace = λ q members goals text other within.
          c.traces_are_known.ensures.text q within.few_lists within.few_orders members goals text other;
      memo_line = c.memos_are_known.ensures.line;
      trace_line = c.traces_are_known.ensures.line;
    } in
    let least = λ (q : Query) (s t : Tree) (within : IsWithinLimits q) (one : IsLeastPlan q s)
    (other : IsLeastPlan q t).
    c.least_is_one.ensures q within.few_lists within.few_orders (root_of q) (root_request q) t s other one in
    record {
      outcome = one_outcome_of answer sections least;
      generated = one_generated_of answer sections least;
      stages = one_stages_of answer c.stages_have_one_answer.ensures;
      batch = one_batch_of answer sections least;
      lines = lines_as_planned answer sections least;
      check = one_check_of answer c.outcomes_are_one.ensures;
    }
