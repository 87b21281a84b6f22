-- Of one child, what came of it; of none, nothing.
use Rattle.std.proofs.Common.{◌≡◌, Some, sym, ◌∙◌}
use Rattle.goal_board.specs.Seats.{hands}
use Rattle.board_moves.specs.declared.progress.Progress.TheVariants as progress
use Rattle.goal_space.specs.declared.goals.GoalKind.{GoalKind}
use Rattle.job_turns.proofs.Awaited.{has_none, has_one, has_others, some_is, none_is}
use Rattle.job_turns.proofs.over_query.await_if.Goals as goal

pub await_goal-requires-clause-child : goal.await_goal-requires-clause-child
await_goal-requires-clause-child g c = c.requires.child c.in-Some.goal c.in-Some.is

pub returns-in-Full-clause-awaits : goal.returns-in-Full-clause-awaits
returns-in-Full-clause-awaits g c = c.in-Full.ensures.awaits

pub returns-in-Complete-clause-awaits : goal.returns-in-Complete-clause-awaits
returns-in-Complete-clause-awaits g c =
    let b = c.args.search.now.board.now in
    let q = c.args.search.now.query.now in
    has_others q b.setup.capacity (hands c.args.turn.now.seat.now) c.args.turn.now.job.right
    (λ (other : GoalKind). other ≡ c.in-Some.goal)
    (λ (other : GoalKind). c.args.child ≡ Some other)
    (λ other is. some_is c.in-Some.goal other (sym c.in-Some.is ∙ is)) (hands c.await_goal.new.turn.seat.now)
    c.await_goal.new.turn.job.right
    (has_one q b.setup.capacity (hands c.args.turn.now.seat.now) c.args.turn.now.job.right c.in-Some.goal
    (progress.Complete c.in-Complete.field-0) (hands c.await_goal.new.turn.seat.now) c.await_goal.new.turn.job.right
    (λ is. let bad : ⊥ = cc in bad) c.in-Complete.ensures.awaits)

pub returns-in-Waiting-clause-awaits : goal.returns-in-Waiting-clause-awaits
returns-in-Waiting-clause-awaits g c =
    let b = c.args.search.now.board.now in
    let q = c.args.search.now.query.now in
    has_others q b.setup.capacity (hands c.args.turn.now.seat.now) c.args.turn.now.job.right
    (λ (other : GoalKind). other ≡ c.in-Some.goal)
    (λ (other : GoalKind). c.args.child ≡ Some other)
    (λ other is. some_is c.in-Some.goal other (sym c.in-Some.is ∙ is)) (hands c.await_goal.new.turn.seat.now)
    c.await_goal.new.turn.job.right
    (has_one q b.setup.capacity (hands c.args.turn.now.seat.now) c.args.turn.now.job.right c.in-Some.goal
    progress.Waiting
    (hands c.await_goal.new.turn.seat.now) c.await_goal.new.turn.job.right (λ is. let bad : ⊥ = cc in bad)
    c.in-Waiting.ensures.awaits)

pub returns-in-None-clause-awaits : goal.returns-in-None-clause-awaits
returns-in-None-clause-awaits g c =
    has_none c.args.search.now.query.now c.args.search.now.board.now.setup.capacity (hands c.args.turn.now.seat.now)
    c.args.turn.now.job.right
    (λ (other : GoalKind). c.args.child ≡ Some other) (λ other is. none_is other c.args.child c.in-None.is is)
