-- Something is asked of the group of a key, or nothing.
use Rattle.std.proofs.Common.{◌≡◌, Option, None, Some, sym, subst, ap, ◌∙◌, arith}
use Rattle.query_core.specs.Keys.{key_number}
use Rattle.query_core.specs.declared.words.Key.{Key}
use Rattle.request_props.specs.declared.request.Request.{Request}
use Rattle.best_answers.specs.Best.{IsBestAsked}
use Rattle.goal_board.specs.Seats.{hands}
use Rattle.goal_space.specs.Answers.{IsAnswerTo}
use Rattle.goal_space.specs.declared.goals.GoalKind.TheVariants.{Opt}
use Rattle.job_turns.specs.Choices.{Chooses, IsAskedByChild, IsGoalAsked}
use Rattle.job_turns.specs.declared.known_best.KnownBest.TheVariants.{Known}
use Rattle.job_turns.proofs.Staying.{small_of}
use Rattle.job_turns.proofs.Finding.{finds_none, chooses_others}
use Rattle.job_turns.proofs.OneMode.{goal_of_key, best_of_key, child_of_key}
use Rattle.job_turns.proofs.modes.await_asked.Goals as goal

pub group-requires : goal.group-requires
group-requires g c =
    let asked = subst (IsAskedByChild c.args.search.now.query.now c.args.turn.now.job.right.goal) c.in-Some.is
    c.requires.asked in
    (asked.0, asked.1)

pub await_best-requires-clause-child : goal.await_best-requires-clause-child
await_best-requires-clause-child g c =
    let asked = subst (IsAskedByChild c.args.search.now.query.now c.args.turn.now.job.right.goal) c.in-Some.is
    c.requires.asked in
    child_of_key c.args.search.now.query.now c.in-Some.key c.in-Some.wanted c.group.result c.group.ensures.only
    c.args.turn.now.job.right.goal asked

pub group_goal-word-requires-clause-key : goal.group_goal-word-requires-clause-key
group_goal-word-requires-clause-key g c =
    let asked = subst (IsAskedByChild c.args.search.now.query.now c.args.turn.now.job.right.goal) c.in-Some.is
    c.requires.asked in
    let number = asked.1.number in
    let small = c.groups_are_known.ensures.small asked.0
    (c.groups_are_known.ensures.in_range c.args.search.now.query.now asked.0 asked.1.known) in
    omega (arith, number, small)

pub group_goal-word-requires-clause-wanted : goal.group_goal-word-requires-clause-wanted
group_goal-word-requires-clause-wanted g c =
    let asked = subst (IsAskedByChild c.args.search.now.query.now c.args.turn.now.job.right.goal) c.in-Some.is
    c.requires.asked in
    let child = asked.2 in
    (c.words_are_known.ensures.words c.args.search.now.query.now (small_of c.requires.at_work.has_job.its) child.0
    (Opt asked.0 c.in-Some.wanted) c.args.turn.now.job.right.goal child.1 child.2).1.1

pub await_best-requires-clause-word : goal.await_best-requires-clause-word
await_best-requires-clause-word g c =
    let asked = subst (IsAskedByChild c.args.search.now.query.now c.args.turn.now.job.right.goal) c.in-Some.is
    c.requires.asked in
    c.group_goal-word.ensures c.group.result (asked.1.number ∙ ap key_number (c.group.ensures.only asked.0 asked.1))

pub returns-in-Some-clause-chooses : goal.returns-in-Some-clause-chooses
returns-in-Some-clause-chooses g c =
    let q = c.args.search.now.query.now in
    let b = c.args.search.now.board.now in
    let key = c.in-Some.key in
    let wanted = c.in-Some.wanted in
    let group = c.group.result in
    subst (λ (asked : Option (Key × Request)).
    Chooses q b.setup.capacity (hands c.args.turn.now.seat.now) c.args.turn.now.job.right (IsGoalAsked q asked)
    (IsBestAsked q asked)
    c.await_best.result (hands c.await_best.new.turn.seat.now) c.await_best.new.turn.job.right) (sym c.in-Some.is)
    (chooses_others q b.setup.capacity (hands c.args.turn.now.seat.now) c.args.turn.now.job.right
    (λ goal. goal ≡ Opt group wanted)
    (IsGoalAsked q (Some (key, wanted))) (IsAnswerTo q (Opt group wanted)) (IsBestAsked q (Some (key, wanted)))
    (goal_of_key q key wanted group c.group.ensures.only) (best_of_key q key wanted group c.group.ensures.only)
    c.await_best.result (hands c.await_best.new.turn.seat.now) c.await_best.new.turn.job.right
    c.await_best.ensures.chooses)

pub returns-in-None-clause-chooses : goal.returns-in-None-clause-chooses
returns-in-None-clause-chooses g c =
    let q = c.args.search.now.query.now in
    let b = c.args.search.now.board.now in
    let none : Option (Key × Request) = None in
    subst (λ (asked : Option (Key × Request)).
    Chooses q b.setup.capacity (hands c.args.turn.now.seat.now) c.args.turn.now.job.right (IsGoalAsked q asked)
    (IsBestAsked q asked)
    (Some (Known None)) (hands c.args.turn.now.seat.now) c.args.turn.now.job.right) (sym c.in-None.is)
    (finds_none q b.setup.capacity (hands c.args.turn.now.seat.now) c.args.turn.now.job.right (IsGoalAsked q none)
    (IsBestAsked q none)
    (λ child is. is.2) None tt)
