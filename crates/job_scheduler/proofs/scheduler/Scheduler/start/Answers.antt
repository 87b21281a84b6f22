use Rattle.std.proofs.Common.{arith, subst}
use Rattle.goal_board.specs.Seats.{hands}
use Rattle.goal_board.specs.Calls.{FindsAt, FindsFull}
use Rattle.job_scheduler.proofs.Opening.{not_known, not_full}
use Rattle.job_scheduler.proofs.scheduler.Scheduler.start.Goals as goal

-- all words of a new board are 0
pub unreachable-requires : goal.unreachable-requires
unreachable-requires g c =
    let laws = g.met.R.GoalRules g.world.𝓛 g.world.𝓜 g.world.𝓡 ((λ s x. x), (λ x. x), (λ x. x), λ x. x) in
    let capacity = c.in_ok-board.ensures.board.1 in
    not_known c.args.rules c.args.capacity _ c.in_ok-board.ensures.seat.1 c.args.goal c.in-Known._at _
    (laws.zero_enters_not c.args.rules c.args.goal c.requires.goal.0)
    (subst (λ n. FindsAt n (hands c.in_ok-board.seat) c.args.goal c.in-Known._at (hands c.insert.new.seat)) capacity
    c.in-Known.ensures.answer)

pub unreachable-requires-in-Full : goal.unreachable-requires-in-Full
unreachable-requires-in-Full g c =
    let capacity = c.in_ok-board.ensures.board.1 in
    not_full c.args.rules c.args.capacity _ c.in_ok-board.ensures.seat.1 c.args.goal _
    (omega (arith, c.requires.capacity.0))
    (subst (λ n. FindsFull n (hands c.in_ok-board.seat) c.args.goal (hands c.insert.new.seat)) capacity
    c.in-Full.ensures.answer)
