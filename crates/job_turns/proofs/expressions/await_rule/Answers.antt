-- Of a rule that is tried, what came of its goal; of another, nothing.
use Rattle.std.proofs.Common.{◌≡◌, arith}
use Rattle.goal_board.specs.Seats.{hands}
use Rattle.board_moves.specs.declared.progress.Progress.TheVariants as progress
use Rattle.goal_space.specs.Phases.{IsOfRule}
use Rattle.goal_space.specs.declared.goals.GoalKind.{GoalKind}
use Rattle.goal_space.specs.declared.goals.GoalKind.TheVariants.{Xf}
use Rattle.job_turns.proofs.Awaited.{has_none, has_one, has_others}
use Rattle.job_turns.proofs.expressions.await_rule.Goals as goal

pub returns-then-not-is_tried-clause-awaits : goal.returns-then-not-is_tried-clause-awaits
returns-then-not-is_tried-clause-awaits g c =
    has_none c.args.search.now.query.now c.args.search.now.board.now.setup.capacity (hands c.args.turn.now.seat.now)
    c.args.turn.now.job.right
    (IsOfRule c.args.search.now.query.now c.args.phase c.args.e c.args.rule) (λ child is.
    let tried = c.is_tried.ensures.1 is.0 in
    absurd (grind (arith, tried, c.if-not-is_tried.true)))

pub returns-in-Complete-clause-awaits : goal.returns-in-Complete-clause-awaits
returns-in-Complete-clause-awaits g c =
    let b = c.args.search.now.board.now in
    let q = c.args.search.now.query.now in
    let child = Xf c.args.e c.args.rule in
    has_others q b.setup.capacity (hands c.args.turn.now.seat.now) c.args.turn.now.job.right
    (λ (other : GoalKind). other ≡ child) (IsOfRule q c.args.phase c.args.e c.args.rule) (λ other is. is.1)
    (hands c.await_word.new.turn.seat.now) c.await_word.new.turn.job.right
    (has_one q b.setup.capacity (hands c.args.turn.now.seat.now) c.args.turn.now.job.right child
    (progress.Complete c.in-Complete.field-0) (hands c.await_word.new.turn.seat.now) c.await_word.new.turn.job.right
    (λ is. let bad : ⊥ = cc in bad) c.in-Complete.ensures.awaits)
