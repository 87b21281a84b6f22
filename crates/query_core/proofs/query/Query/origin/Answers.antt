use Rattle.std.proofs.Common.{subst, sym}
use Rattle.query_core.specs.Expressions.{IsPacked}
use Rattle.query_core.proofs.CandidateLemmas.{origin_candidate, candidate_packed}
use Rattle.query_core.proofs.query.Query.origin.Goals as goal

-- the group can hold its origin, so that fits a word
pub make-requires : goal.make-requires
make-requires c =
    subst IsPacked (sym c.origin_of_group.ensures)
    (candidate_packed c.args.self.now _ (origin_candidate c.args.self.now c.group.result c.group.ensures.named.known))
