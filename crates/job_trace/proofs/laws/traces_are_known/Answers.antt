use Rattle.job_trace.proofs.OneTrace.{one_text}
use Rattle.job_trace.proofs.OneLine.{one_line, begins}
use Rattle.job_trace.proofs.laws.traces_are_known.Goals as goal

-- goals over a query have words, a word is that of one goal, and its children are one list
pub returns : goal.returns
returns c = record {
  text = λ q few_lists few_orders members goals text other is again.
      one_text q members
      (c.children_are_over_the_query.ensures.words q few_lists few_orders)
      c.goal_kinds_are_one.ensures.one
      (λ goal children others over are also. c.children_are_one.ensures q few_lists few_orders members goal children
      others over are also)
      goals text other is again;
  line = one_line c.goal_kinds_are_one.ensures.one;
  begins = λ q few_lists few_orders. begins c.goal_kinds_are_one.ensures.one q
      (c.children_are_over_the_query.ensures.words q few_lists few_orders);
}
