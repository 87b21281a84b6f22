use Rattle.sql_bind.proofs.QueryThere.{query_there}
use Rattle.sql_bind.proofs.laws.bound_queries_are_there.Goals as goal

-- the query has the parts that are bound, and these links
pub returns : goal.returns
returns c = query_there
