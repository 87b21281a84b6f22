use Rattle.query_generator.proofs.QueryBound.{query_there, lists_few, orders_few}
use Rattle.query_generator.proofs.laws.generated_queries_are_bound.Goals as goal

-- the text has one reading, and without its offsets this is the shape's query, whose parts are known
pub returns : goal.returns
returns c = record {
  there = λ number tables shape options select chosen read.
      query_there c.one_outcome.ensures.reading number tables shape options select read
      c.bound_queries_are_there.ensures chosen;
  few_lists = λ number tables shape options select read.
      lists_few c.one_outcome.ensures.reading number tables shape options select read;
  few_orders = λ number tables shape options select read.
      orders_few c.one_outcome.ensures.reading number tables shape options select read;
}
