use Rattle.std.proofs.Common.{arith}
use Rattle.query_core.proofs.CandidateLemmas.{count_few}
use Rattle.query_core.proofs.query.Query.index_limit.Goals as goal

-- a table has at most 16 indexes
pub returns-else-count-eq0-clause-few : goal.returns-else-count-eq0-clause-few
returns-else-count-eq0-clause-few c =
    omega (arith, c.index_count-count.ensures, count_few c.args.self.now c.args.table)
