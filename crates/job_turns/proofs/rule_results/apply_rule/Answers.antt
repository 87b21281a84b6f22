-- A rule without a left group to bind a member of has no child, and all that it brings is put in.
use Rattle.std.proofs.Common.{None, inl}
use Rattle.goal_board.specs.Seats.{hands}
use Rattle.goal_space.specs.declared.goals.GoalKind.TheVariants.{Xf}
use Rattle.board_moves.proofs.MovesLemmas.{proceeds_none}
use Rattle.job_turns.specs.Results.{IsBroughtWith}
use Rattle.job_turns.specs.Works.{AddsWord}
use Rattle.job_turns.proofs.Staying.{small_of}
use Rattle.job_turns.proofs.RuleLemmas.{rule_works, results_run_out, no_left, unbound_wanted}
use Rattle.job_turns.proofs.rule_results.apply_rule.Goals as goal

pub bind_members-requires-clause-left : goal.bind_members-requires-clause-left
bind_members-requires-clause-left g c = (c.left_group.ensures c.in-Some.left).0 c.in-Some.is

pub put_results-requires-clause-e : goal.put_results-requires-clause-e
put_results-requires-clause-e g c = c.goals_are_known.ensures.candidates c.args.search.now.query.now
    (Xf c.args.e c.args.rule)
    c.requires.goal.is_goal

pub put_results-requires-clause-asked : goal.put_results-requires-clause-asked
put_results-requires-clause-asked g c = λ x (n, (found, has, brought)).
    (Xf c.args.e c.args.rule, c.requires.goal, (found, inl (n, has), brought))

pub returns-then-put_results-clause-works : goal.returns-then-put_results-clause-works
returns-then-put_results-clause-works g c =
    let q = c.args.search.now.query.now in
    let b = c.args.search.now.board.now in
    let right = c.args.turn.now.job.right in
    let laws = c.words_are_known.ensures in
    rule_works q (laws.children q) (laws.asked q) (small_of c.requires.at_work.has_job.its) c.args.e c.args.rule
    b.setup.capacity
    (hands c.args.turn.now.seat.now) (hands c.args.turn.now.seat.now) (hands c.put_results.new.seat) right right
    (IsBroughtWith q c.args.rule c.args.e None)
    c.progress.result c.requires.goal
    (proceeds_none (AddsWord q (Xf c.args.e c.args.rule)) (hands c.args.turn.now.seat.now) right)
    c.if-put_results.ensures.puts
    (λ none child (group, joins, left, is). absurd
    (no_left group c.left_group.result c.in-None.is ((c.left_group.ensures group).1 (joins, left))))
    (unbound_wanted q c.args.e c.args.rule (λ group is_left.
    no_left group c.left_group.result c.in-None.is ((c.left_group.ensures group).1 is_left))
    (c.results_are_known.ensures.left q c.args.rule c.args.e)) c.progress.ensures

pub returns-else-put_results-clause-works : goal.returns-else-put_results-clause-works
returns-else-put_results-clause-works g c =
    let q = c.args.search.now.query.now in
    let laws = c.words_are_known.ensures in
    results_run_out q (laws.children q) (laws.asked q) (small_of c.requires.at_work.has_job.its) c.args.e c.args.rule
    c.args.search.now.board.now.setup.capacity (hands c.args.turn.now.seat.now) c.args.turn.now.job.right
    (hands c.put_results.new.seat)
    c.args.turn.now.job.right c.requires.goal
    c.if-put_results.ensures.puts
