use Rattle.std.proofs.lemmas.Result.{err_from_is_err_and}
use Rattle.sql_bind.proofs.Outcome.{bounded, is_bound, is_refused}
use Rattle.sql_bind.proofs.binding.query_over.Goals as goal

pub judge-requires-clause-bounded : goal.judge-requires-clause-bounded
judge-requires-clause-bounded c = rw c.requires.used (bounded c.requires.named).0

pub judge-requires-clause-few : goal.judge-requires-clause-few
judge-requires-clause-few c = (bounded c.requires.named).1

-- the grouping, or the number of items, is refused
pub returns-in_err-judge : goal.returns-in_err-judge
returns-in_err-judge c =
    let residual = c.from_residual in
    let raised = err_from_is_err_and residual.result residual.ensures.1 in
    rw raised.1 (is_refused c.requires.named c.in_err-judge.field-0.0 raised.0 c.in_err-judge.ensures.err raised.2)

pub returns : goal.returns
returns c = record {
  parts = c.args.parts.now;
  no_fault = is_bound c.requires.named c.in_ok-judge.ensures.ok;
  query = c.in_ok-query_of.ensures;
}
