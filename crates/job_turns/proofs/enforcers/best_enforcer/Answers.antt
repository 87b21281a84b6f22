-- There are at most two enforcers.
use Rattle.std.proofs.Common.{ℕ, sym, subst}
use Rattle.best_answers.specs.Best.{IsBest}
use Rattle.goal_board.specs.Seats.{hands}
use Rattle.goal_space.specs.Entries.{NamesGoal}
use Rattle.goal_space.specs.declared.goals.GoalKind.TheVariants.{Opt}
use Rattle.job_turns.specs.Choices.{FindsBest}
use Rattle.job_turns.specs.Requests.{IsEnforcerGoal, IsEnforcerGoalAt, enforcer_at, first_enforcers}
use Rattle.job_turns.specs.declared.known_best.KnownBest.{KnownBest}
use Rattle.job_turns.proofs.Finding.{chooses_none, finds_both, finds_others}
use Rattle.job_turns.proofs.Enforced.{goal_of_first}
use Rattle.job_turns.proofs.enforcers.best_enforcer.Goals as goal

pub await_enforcer-requires-2-clause-goal : goal.await_enforcer-requires-2-clause-goal
await_enforcer-requires-2-clause-goal g c =
    subst (λ (word : ℕ). NamesGoal c.args.search.now.query.now word (Opt c.args.group c.args.wanted))
    (sym c.in_ok-first.ensures.chooses.awaited.proceeds.same_goal) c.requires.goal

pub returns-in_err-second-clause-chooses : goal.returns-in_err-second-clause-chooses
returns-in_err-second-clause-chooses g c =
    let q = c.args.search.now.query.now in
    rw c.from_residual-in_err-second.ensures
    (chooses_none q c.args.search.now.board.now.setup.capacity (hands c.args.turn.now.seat.now)
    c.args.turn.now.job.right
    (IsEnforcerGoalAt c.args.group c.args.wanted 0)
    (IsBest q c.args.group c.args.wanted (enforcer_at c.args.wanted 0)) c.in_ok-first.first
    (hands c.await_enforcer.new.turn.seat.now) c.await_enforcer.new.turn.job.right
    (hands c.await_enforcer-2.new.turn.seat.now)
    c.await_enforcer-2.new.turn.job.right c.in_ok-first.ensures.chooses c.in_err-second.ensures.chooses)

pub returns-clause-chooses : goal.returns-clause-chooses
returns-clause-chooses g c =
    let q = c.args.search.now.query.now in
    let b = c.args.search.now.board.now in
    let group = c.args.group in
    let wanted = c.args.wanted in
    let v = hands c.args.turn.now.seat.now in
    let start = c.args.turn.now.job.right in
    let w = hands c.await_enforcer-2.new.turn.seat.now in
    let after = c.await_enforcer-2.new.turn.job.right in
    let fits = c.goals_are_known.ensures.requests q (Opt group wanted) c.requires.goal.is_goal in
    let both = finds_both q b.setup.capacity v start (IsEnforcerGoalAt group wanted 0) (IsEnforcerGoalAt group wanted 1)
    (IsBest q group wanted (enforcer_at wanted 0)) (IsBest q group wanted (enforcer_at wanted 1))
    (IsBest q group wanted (first_enforcers wanted))
    (λ first second is also. c.answers_are_best.ensures.lesser q c.args.search.now.props.now c.requires.at_work.has_job.its.props
    group
    wanted
    (enforcer_at wanted 0) (enforcer_at wanted 1) first second fits is also) c.in_ok-first.first
    c.in_ok-second.second
    (hands c.await_enforcer.new.turn.seat.now) c.await_enforcer.new.turn.job.right w after c.in_ok-first.ensures.chooses
    c.in_ok-second.ensures.chooses in
    subst (λ (known_best : KnownBest). FindsBest q b.setup.capacity v start (IsEnforcerGoal q group wanted)
    (IsBest q group wanted (first_enforcers wanted)) known_best w after) (sym c.or.ensures)
    (finds_others q b.setup.capacity v start _ (IsEnforcerGoal q group wanted)
    (IsBest q group wanted (first_enforcers wanted)) (IsBest q group wanted (first_enforcers wanted))
    (goal_of_first wanted q group) (λ best is. is) _ w after both)
