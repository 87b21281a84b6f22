-- A result of a candidate is one, and there is one of each number.
use Rattle.std.proofs.Common.{subst}
use Rattle.goal_board.specs.Seats.{hands}
use Rattle.goal_space.specs.Asked.{IsBroughtBy}
use Rattle.job_turns.specs.Results.{IsBroughtAt}
use Rattle.job_turns.proofs.MembersPut.{put_none, puts_others}
use Rattle.job_turns.proofs.RuleLemmas.{bound_packed}
use Rattle.job_turns.proofs.rule_results.put_result.Goals as goal

pub nth_result-requires-clause-e : goal.nth_result-requires-clause-e
nth_result-requires-clause-e c = c.candidates_are_known.ensures.packed c.args.search.now.query.now c.args.binding.e
    c.requires.e

pub nth_result-requires-clause-bound : goal.nth_result-requires-clause-bound
nth_result-requires-clause-bound c = bound_packed c.args.search.now.query.now
    (c.candidates_are_known.ensures.packed c.args.search.now.query.now) c.args.binding.bound c.requires.bound

pub put_brought-requires-clause-candidate : goal.put_brought-requires-clause-candidate
put_brought-requires-clause-candidate c =
    c.results_are_candidates.ensures.candidates c.args.search.now.query.now c.args.binding.rule c.args.binding.e
    c.args.binding.bound c.args.n
    c.in-Some.other c.requires.e c.requires.bound c.in-Some.ensures

pub put_brought-requires-clause-asked : goal.put_brought-requires-clause-asked
put_brought-requires-clause-asked c = λ other brought.
    c.requires.asked other (c.in-Some.other, c.in-Some.ensures, brought)

pub returns-in-Some-clause-puts : goal.returns-in-Some-clause-puts
returns-in-Some-clause-puts c =
    let q = c.args.search.now.query.now in
    puts_others q c.args.search.now.board.now.setup.capacity c.args.job.now.right (hands c.args.seat.now)
    (IsBroughtBy q c.in-Some.other)
    (IsBroughtAt q c.args.binding.rule c.args.binding.e c.args.binding.bound c.args.n)
    (λ x (found, has, brought). subst (λ k. IsBroughtBy q k x)
    (c.results_are_candidates.ensures.one q c.args.binding.rule c.args.binding.e c.args.binding.bound c.args.n found
    c.in-Some.other has
    c.in-Some.ensures) brought)
    c.put_brought.result (hands c.put_brought.new.seat) c.put_brought.ensures.puts

pub returns-in-None-clause-puts : goal.returns-in-None-clause-puts
returns-in-None-clause-puts c =
    put_none c.args.search.now.query.now c.args.search.now.board.now.setup.capacity c.args.job.now.right
    (hands c.args.seat.now)
    (IsBroughtAt c.args.search.now.query.now c.args.binding.rule c.args.binding.e c.args.binding.bound c.args.n)
    (λ x (found, has, brought). c.in-None.ensures found has)
