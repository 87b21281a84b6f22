-- The first and then the second.
use Rattle.std.proofs.Common.{◌≡◌, Some, inl, inr, sym, subst}
use Rattle.goal_board.specs.Seats.{hands}
use Rattle.goal_space.specs.declared.goals.GoalKind.{GoalKind}
use Rattle.job_turns.specs.Works.{IsChildOf}
use Rattle.job_turns.proofs.Awaited.{awaits_then}
use Rattle.job_turns.proofs.over_query.await_both.Goals as goal

pub await_if-requires-clause-child : goal.await_if-requires-clause-child
await_if-requires-clause-child g c = λ child is. c.requires.children child (inl is)

pub returns-then-not-await_if-clause-awaits : goal.returns-then-not-await_if-clause-awaits
returns-then-not-await_if-clause-awaits g c = c.if-not-await_if.ensures.awaits

pub await_if-requires-2-clause-child : goal.await_if-requires-2-clause-child
await_if-requires-2-clause-child g c = λ child is.
    subst (λ k. IsChildOf c.args.search.now.query.now k child) (sym c.if-not-await_if.ensures.awaits.proceeds.same_goal)
    (c.requires.children child (inr is))

pub returns-clause-awaits : goal.returns-clause-awaits
returns-clause-awaits g c =
    awaits_then c.args.search.now.query.now c.args.search.now.board.now.setup.capacity (hands c.args.turn.now.seat.now)
    c.args.turn.now.job.right
    (λ (child : GoalKind). c.args.children.0 ≡ Some child) (λ (child : GoalKind). c.args.children.1 ≡ Some child)
    (hands c.await_if.new.turn.seat.now) c.await_if.new.turn.job.right c.await_if-2.result
    (hands c.await_if-2.new.turn.seat.now)
    c.await_if-2.new.turn.job.right c.if-not-await_if.ensures.awaits c.await_if-2.ensures.awaits
