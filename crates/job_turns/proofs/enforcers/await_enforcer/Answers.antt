-- What the enforcer asks of the same group was awaited, or no enforcer is there.
use Rattle.std.proofs.Common.{◌≡◌, Option, None, sym, ap, subst, inr}
use Rattle.request_props.specs.declared.request.Request.{Request}
use Rattle.plan_space.specs.Enforcers.{EnforcedBy}
use Rattle.best_answers.specs.Best.{IsBest}
use Rattle.goal_board.specs.Seats.{hands}
use Rattle.goal_space.specs.Answers.{IsAnswerTo}
use Rattle.goal_space.specs.declared.goals.GoalKind.TheVariants.{Opt}
use Rattle.job_turns.specs.Choices.{IsKnownBest}
use Rattle.job_turns.specs.Requests.{IsEnforcerGoalAt, enforcer_at, enforcer_alone}
use Rattle.job_turns.specs.declared.known_best.KnownBest.TheVariants.{Known, Open}
use Rattle.job_turns.proofs.Staying.{small_of}
use Rattle.job_turns.proofs.Finding.{finds_none, finds_told}
use Rattle.job_turns.proofs.Enforced.{found_at, goal_found, no_goal, no_node}
use Rattle.job_turns.proofs.enforcers.await_enforcer.Goals as goal

pub enforcer_for-requires-clause-fits : goal.enforcer_for-requires-clause-fits
enforcer_for-requires-clause-fits g c = c.goals_are_known.ensures.requests c.args.search.now.query.now
    (Opt c.args.group c.args.wanted) c.requires.goal.is_goal

pub request_goal-word-requires : goal.request_goal-word-requires
request_goal-word-requires g c =
    let q = c.args.search.now.query.now in
    let group = c.args.group in
    let wanted = c.args.wanted in
    let fits = c.goals_are_known.ensures.requests q (Opt group wanted) c.requires.goal.is_goal in
    let found = found_at q group wanted c.args.place fits c.in-Some.enforced c.in-Some.ensures in
    (c.words_are_known.ensures.words q (small_of c.requires.at_work.has_job.its) (Opt group wanted)
    (Opt group c.in-Some.enforced.below) c.args.turn.now.job.right.goal c.requires.goal
    (inr (inr (found.e, found.can, ap (λ (r : Request). Opt group r) found.is.is.1)))).1

pub await_best-requires-clause-word : goal.await_best-requires-clause-word
await_best-requires-clause-word g c = sym c.request_goal-word.ensures.number

pub await_best-requires-clause-child : goal.await_best-requires-clause-child
await_best-requires-clause-child g c =
    let q = c.args.search.now.query.now in
    let group = c.args.group in
    let wanted = c.args.wanted in
    let fits = c.goals_are_known.ensures.requests q (Opt group wanted) c.requires.goal.is_goal in
    let found = found_at q group wanted c.args.place fits c.in-Some.enforced c.in-Some.ensures in
    (Opt group wanted, c.requires.goal, inr (inr (found.e, found.can, ap (λ (r : Request). Opt group r) found.is.is.1)))

pub best_of_enforcer-best-requires-clause-known : goal.best_of_enforcer-best-requires-clause-known
best_of_enforcer-best-requires-clause-known g c =
    c.goals_are_known.ensures.candidates c.args.search.now.query.now (Opt c.args.group c.args.wanted)
    c.requires.goal.is_goal

pub best_of_enforcer-best-requires-clause-fits : goal.best_of_enforcer-best-requires-clause-fits
best_of_enforcer-best-requires-clause-fits g c =
    c.goals_are_known.ensures.requests c.args.search.now.query.now (Opt c.args.group c.args.wanted)
    c.requires.goal.is_goal

pub best_of_enforcer-best-requires-clause-enforced : goal.best_of_enforcer-best-requires-clause-enforced
best_of_enforcer-best-requires-clause-enforced g c =
    let q = c.args.search.now.query.now in
    let group = c.args.group in
    let wanted = c.args.wanted in
    let fits = c.goals_are_known.ensures.requests q (Opt group wanted) c.requires.goal.is_goal in
    let found = found_at q group wanted c.args.place fits c.in-Some.enforced c.in-Some.ensures in
    (found.e, found.is)

pub best_of_enforcer-best-requires-clause-below : goal.best_of_enforcer-best-requires-clause-below
best_of_enforcer-best-requires-clause-below g c =
    subst (IsKnownBest (IsAnswerTo c.args.search.now.query.now (Opt c.args.group c.in-Some.enforced.below))
    c.await_best.new.turn.job.right) c.in-Known.is c.in_ok-found-in-Some.ensures.chooses.is

pub returns-in-Known-clause-chooses : goal.returns-in-Known-clause-chooses
returns-in-Known-clause-chooses g c =
    let q = c.args.search.now.query.now in
    let b = c.args.search.now.board.now in
    let group = c.args.group in
    let wanted = c.args.wanted in
    let fits = c.goals_are_known.ensures.requests q (Opt group wanted) c.requires.goal.is_goal in
    let found = found_at q group wanted c.args.place fits c.in-Some.enforced c.in-Some.ensures in
    finds_told q b.setup.capacity (hands c.args.turn.now.seat.now) c.args.turn.now.job.right
    (λ goal. goal ≡ Opt group c.in-Some.enforced.below) (IsEnforcerGoalAt group wanted c.args.place)
    (IsAnswerTo q (Opt group c.in-Some.enforced.below))
    (IsBest q group wanted (enforcer_at wanted c.args.place))
    (goal_found q group wanted c.args.place c.in-Some.enforced found) c.in_ok-found-in-Some.found
    (hands c.await_best.new.turn.seat.now) c.await_best.new.turn.job.right c.in_ok-found-in-Some.ensures.chooses
    (Known c.best_of_enforcer-best.result)
    (subst (λ (there : Option EnforcedBy). IsBest q group wanted (enforcer_alone there) c.best_of_enforcer-best.result)
    (sym found.is_there) (c.best_of_enforcer-best.ensures found.e found.is))

pub returns-in-Open-clause-chooses : goal.returns-in-Open-clause-chooses
returns-in-Open-clause-chooses g c =
    let q = c.args.search.now.query.now in
    let b = c.args.search.now.board.now in
    let group = c.args.group in
    let wanted = c.args.wanted in
    let fits = c.goals_are_known.ensures.requests q (Opt group wanted) c.requires.goal.is_goal in
    let found = found_at q group wanted c.args.place fits c.in-Some.enforced c.in-Some.ensures in
    finds_told q b.setup.capacity (hands c.args.turn.now.seat.now) c.args.turn.now.job.right
    (λ goal. goal ≡ Opt group c.in-Some.enforced.below) (IsEnforcerGoalAt group wanted c.args.place)
    (IsAnswerTo q (Opt group c.in-Some.enforced.below))
    (IsBest q group wanted (enforcer_at wanted c.args.place))
    (goal_found q group wanted c.args.place c.in-Some.enforced found) c.in_ok-found-in-Some.found
    (hands c.await_best.new.turn.seat.now) c.await_best.new.turn.job.right c.in_ok-found-in-Some.ensures.chooses
    Open (subst (IsKnownBest (IsAnswerTo q (Opt group c.in-Some.enforced.below)) c.await_best.new.turn.job.right)
    c.in-Open.is
    c.in_ok-found-in-Some.ensures.chooses.is)

pub returns-in-None-clause-chooses : goal.returns-in-None-clause-chooses
returns-in-None-clause-chooses g c =
    let q = c.args.search.now.query.now in
    let b = c.args.search.now.board.now in
    let group = c.args.group in
    let wanted = c.args.wanted in
    let none = c.in-None.ensures in
    finds_none q b.setup.capacity (hands c.args.turn.now.seat.now) c.args.turn.now.job.right
    (IsEnforcerGoalAt group wanted c.args.place)
    (IsBest q group wanted (enforcer_at wanted c.args.place)) (no_goal q group wanted c.args.place none) None
    (subst (λ (there : Option EnforcedBy). IsBest q group wanted (enforcer_alone there) None)
    (sym (no_node q group wanted c.args.place none)) (c.answers_are_best.ensures.none q group wanted))
