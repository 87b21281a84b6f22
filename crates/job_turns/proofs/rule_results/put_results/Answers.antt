-- One number more, up to the rule's limit.
use Rattle.std.proofs.Common.{◌⊎◌, ◌<◌, ◌+◌, false, arith}
use Rattle.xform_rules.specs.Rules.{rule_limit}
use Rattle.goal_board.specs.Seats.{hands}
use Rattle.job_turns.specs.Results.{IsBroughtAt, IsBroughtBelow, IsBroughtWith}
use Rattle.job_turns.proofs.MembersPut.{put_none, put_both, put_others, puts_then}
use Rattle.job_turns.proofs.RuleLemmas.{below_more}
use Rattle.job_turns.proofs.rule_results.put_results.Goals as goal

pub loop-n-init : goal.loop-n-init
loop-n-init c = record {
  has_job = c.requires.has_job;
  put = put_none c.args.search.now.query.now c.args.search.now.board.now.setup.capacity c.args.job.now.right
      (hands c.args.seat.now)
      (IsBroughtBelow c.args.search.now.query.now c.args.binding.rule c.args.binding.e c.args.binding.bound 0)
      (λ x is. let none = is.1 in
      absurd (omega arith));
}

pub put_result-requires-clause-asked : goal.put_result-requires-clause-asked
put_result-requires-clause-asked c = λ other at. c.requires.asked other (c.loop-n.n, at)

pub returns-then-not-put_result-clause-puts : goal.returns-then-not-put_result-clause-puts
returns-then-not-put_result-clause-puts c =
    let q = c.args.search.now.query.now in
    puts_then q c.args.search.now.board.now.setup.capacity c.args.job.now.right (hands c.args.seat.now)
    (IsBroughtBelow q c.args.binding.rule c.args.binding.e c.args.binding.bound c.loop-n.n)
    (IsBroughtAt q c.args.binding.rule c.args.binding.e c.args.binding.bound c.loop-n.n)
    (hands c.loop-n.seat) false (hands c.put_result.new.seat) c.loop-n.invariant.put c.if-not-put_result.ensures.puts

pub loop-n-preserved : goal.loop-n-preserved
loop-n-preserved c =
    let q = c.args.search.now.query.now in
    let below = IsBroughtBelow q c.args.binding.rule c.args.binding.e c.args.binding.bound c.loop-n.n in
    let here = IsBroughtAt q c.args.binding.rule c.args.binding.e c.args.binding.bound c.loop-n.n in
    record {
      has_job = c.put_result.ensures.has_job;
      put = put_others q c.args.search.now.board.now.setup.capacity c.args.job.now.right (hands c.args.seat.now)
          (λ x. below x ⊎ here x)
          (IsBroughtBelow q c.args.binding.rule c.args.binding.e c.args.binding.bound (c.loop-n.n + 1))
          (below_more q c.args.binding.rule c.args.binding.e c.args.binding.bound c.loop-n.n)
          (hands c.put_result.new.seat)
          (put_both q c.args.search.now.board.now.setup.capacity c.args.job.now.right (hands c.args.seat.now) below here
          (hands c.loop-n.seat) (hands c.put_result.new.seat) c.loop-n.invariant.put
          c.if-not-put_result.ensures.puts);
    }

pub returns-clause-puts : goal.returns-clause-puts
returns-clause-puts c =
    let q = c.args.search.now.query.now in
    put_others q c.args.search.now.board.now.setup.capacity c.args.job.now.right (hands c.args.seat.now)
    (IsBroughtBelow q c.args.binding.rule c.args.binding.e c.args.binding.bound c.loop-n.n)
    (IsBroughtWith q c.args.binding.rule c.args.binding.e c.args.binding.bound)
    (λ x (n, (found, has, brought)).
    let few : n < rule_limit c.args.binding.rule = c.results_are_candidates.ensures.few q c.args.binding.rule
    c.args.binding.e c.args.binding.bound n
    found has in
    let limit = c.limit-n-end.ensures in
    let past = c.loop-n-test.false in
    (n, omega arith, (found, has, brought)))
    (hands c.loop-n.seat) c.loop-n.invariant.put
