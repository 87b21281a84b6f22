-- The words ascend, so the first that isn't below the bound is the next one.
use Rattle.std.proofs.Common.{arith, rules, sym}
use Rattle.std.proofs.lemmas.Bool.{ltb-true, ltb-false}
use Rattle.query_core.proofs.CandidateLemmas.{candidate_packed}
use Rattle.query_core.proofs.ExpressionLemmas.{word_small}
use Rattle.request_props.proofs.CandidateLists.{next_at, none_at}
use Rattle.request_props.proofs.props.lookups.next_among.Goals as goal

-- no word comes after the last number of 64 bits
pub returns-in_err-bound : goal.returns-in_err-bound
returns-in_err-bound c = rw c.from_residual.ensures (λ w (e, candidate, same, number) later.
    c.in_err-bound.ensures w (omega (arith, number, word_small e (candidate_packed c.args.query.now e candidate)))
    later)

pub returns-in-Some : goal.returns-in-Some
returns-in-Some c =
    next_at c.args.query.now c.args.group c.args.after c.in_ok-bound.bound c.in_ok-bound.ensures c.args.words.now
    c.requires c.count_below.result
    c.count_below.ensures.before c.count_below.ensures.after (record { 0 = c.in-Some.word.now })
    (ltb-true _ _ (sym c.in-Some.ensures.lookup.0)) (search rules)

pub returns-in-None : goal.returns-in-None
returns-in-None c =
    none_at c.args.query.now c.args.group c.args.after c.in_ok-bound.bound c.in_ok-bound.ensures c.args.words.now
    c.requires c.count_below.result
    c.count_below.ensures.before c.count_below.ensures.after (ltb-false _ _ (sym c.in-None.ensures.lookup.0))
