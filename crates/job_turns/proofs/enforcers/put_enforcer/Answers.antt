-- What an enforcer for the request asks of the same group is a child.
use Rattle.std.proofs.Common.{refl, ap, sym, inr}
use Rattle.request_props.specs.declared.request.Request.{Request}
use Rattle.goal_board.specs.Seats.{hands}
use Rattle.board_moves.proofs.MovesLemmas.{proceeds_none}
use Rattle.goal_space.specs.Entries.{IsChildWord}
use Rattle.goal_space.specs.declared.goals.GoalKind.TheVariants.{Opt}
use Rattle.job_turns.proofs.Staying.{small_of}
use Rattle.job_turns.proofs.Enforced.{found_at}
use Rattle.job_turns.proofs.enforcers.put_enforcer.Goals as goal

pub enforcer_for-requires-clause-fits : goal.enforcer_for-requires-clause-fits
enforcer_for-requires-clause-fits g c = c.goals_are_known.ensures.requests c.args.search.now.query.now
    (Opt c.args.group c.args.wanted) c.requires.goal.is_goal

pub request_goal-word-requires : goal.request_goal-word-requires
request_goal-word-requires g c =
    let q = c.args.search.now.query.now in
    let group = c.args.group in
    let wanted = c.args.wanted in
    let fits = c.goals_are_known.ensures.requests q (Opt group wanted) c.requires.goal.is_goal in
    let found = found_at q group wanted c.args.place fits c.in-Some.enforced c.in-Some.ensures in
    (c.words_are_known.ensures.words q (small_of c.requires.at_work.has_job.its) (Opt group wanted)
    (Opt group c.in-Some.enforced.below) c.args.turn.now.job.right.goal c.requires.goal
    (inr (inr (found.e, found.can, ap (λ (r : Request). Opt group r) found.is.is.1)))).1

pub put_child-requires-clause-word : goal.put_child-requires-clause-word
put_child-requires-clause-word g c = sym c.request_goal-word.ensures.number

pub put_child-requires-clause-child : goal.put_child-requires-clause-child
put_child-requires-clause-child g c =
    let q = c.args.search.now.query.now in
    let group = c.args.group in
    let wanted = c.args.wanted in
    let fits = c.goals_are_known.ensures.requests q (Opt group wanted) c.requires.goal.is_goal in
    let found = found_at q group wanted c.args.place fits c.in-Some.enforced c.in-Some.ensures in
    (Opt group wanted, c.requires.goal, inr (inr (found.e, found.can, ap (λ (r : Request). Opt group r) found.is.is.1)))

pub returns-in-None-clause-puts : goal.returns-in-None-clause-puts
returns-in-None-clause-puts g c =
    let turn = c.args.turn.now in
    record {
      same_right = refl;
      puts = proceeds_none (IsChildWord c.args.search.now.query.now turn.job.right.goal) (hands turn.seat.now)
          turn.job.right;
    }
