use Rattle.std.proofs.Common.{arith, sym, subst}
use Rattle.std.specs.Prelude.{MatchOption}
use Rattle.query_core.specs.Candidates.{IsLast, IsNext}
use Rattle.query_core.proofs.CandidateLemmas.{candidate_packed}
use Rattle.query_core.proofs.ExpressionLemmas.{word_small}
use Rattle.query_core.proofs.Finding.{next_is}
use Rattle.query_core.proofs.query.Query.next_candidate.Goals as goal

-- no word comes after the last number of 64 bits
pub returns-in_err-bound_after : goal.returns-in_err-bound_after
returns-in_err-bound_after c g names = rw c.from_residual.ensures (λ w (e, candidate, same, number) later.
    c.in_err-bound_after.ensures w (omega (arith, number, word_small e (candidate_packed c.args.self.now e candidate)))
    later)

-- the key names one group
pub returns : goal.returns
returns c g names =
    subst (λ x. MatchOption c.next_in.result (IsLast c.args.self.now x c.args.after)
    (λ next. IsNext c.args.self.now x c.args.after next.0))
    (sym (c.group.ensures.only g names))
    (next_is c.args.self.now c.group.result c.group.ensures.named.known c.args.after c.in_ok-bound_after.field-0
    c.next_in.result c.in_ok-bound_after.ensures c.next_in.ensures)
