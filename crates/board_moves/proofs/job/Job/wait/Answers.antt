-- A child that isn't finished has one waiter more, unless the goal has eight waits.
use Rattle.std.proofs.Common.{arith}
use Rattle.goal_board.specs.Seats.{hands}
use Rattle.board_moves.proofs.MovesLemmas.{proceeds_none}
use Rattle.board_moves.proofs.OneChild.{not_open, awaits_registered, awaits_finished, child_is_some}
use Rattle.board_moves.proofs.job.Job.wait.Goals as goal

pub returns-then-self-eq8-clause-awaits : goal.returns-then-self-eq8-clause-awaits
returns-then-self-eq8-clause-awaits g c =
    let meaning = g.R.GoalRules.meaning c.args.board.now.setup.rules in
    let eight = c.if-self-eq8.true in
    let same = c.args.self.now.counted in (
      proceeds_none (meaning.child c.args.self.now.right.goal) (hands c.args.seat.now) c.args.self.now.right,
      omega arith,
    )

pub unreachable-requires : goal.unreachable-requires
unreachable-requires g c =
    let laws = g.met.R.GoalRules g.world.𝓛 g.world.𝓜 g.world.𝓡 ((λ s x. x), (λ x. x), (λ x. x), λ x. x) in
    let b = c.args.board.now in
    let right = c.args.self.now.right in
    let some_child = child_is_some c.args.child (laws.zero_enters_not b.setup.rules) (laws.children_enter b.setup.rules)
    c.requires.right c.requires.child in
    not_open (g.R.GoalRules.meaning b.setup.rules) b.setup.capacity c.args.child some_child (hands c.args.seat.now)
    right.place
    c.args.at (hands c.wait_for.new.seat) (hands c.answer.new.seat) c.requires.near c.requires.stands
    c.in-Finished.ensures.answer c.in-None.ensures.answer

pub returns-in-Registered-clause-awaits : goal.returns-in-Registered-clause-awaits
returns-in-Registered-clause-awaits g c =
    let laws = g.met.R.GoalRules g.world.𝓛 g.world.𝓜 g.world.𝓡 ((λ s x. x), (λ x. x), (λ x. x), λ x. x) in
    let b = c.args.board.now in
    let right = c.args.self.now.right in
    let some_child = child_is_some c.args.child (laws.zero_enters_not b.setup.rules) (laws.children_enter b.setup.rules)
    c.requires.right c.requires.child in
    awaits_registered (g.R.GoalRules.meaning b.setup.rules) b.setup.capacity c.args.child some_child
    (hands c.args.seat.now)
    right c.args.at c.requires.child (hands c.wait_for.new.seat) c.wait_for.new.right c.in-Registered.ensures.answer
    c.in-Registered.ensures.right

pub returns-in-Some-clause-awaits : goal.returns-in-Some-clause-awaits
returns-in-Some-clause-awaits g c =
    let laws = g.met.R.GoalRules g.world.𝓛 g.world.𝓜 g.world.𝓡 ((λ s x. x), (λ x. x), (λ x. x), λ x. x) in
    let b = c.args.board.now in
    let right = c.args.self.now.right in
    let some_child = child_is_some c.args.child (laws.zero_enters_not b.setup.rules) (laws.children_enter b.setup.rules)
    c.requires.right c.requires.child in
    awaits_finished (g.R.GoalRules.meaning b.setup.rules) b.setup.capacity c.args.child some_child
    (hands c.args.seat.now) right
    c.args.at c.requires.child (hands c.wait_for.new.seat) c.in-Some.answer (hands c.answer.new.seat)
    c.wait_for.new.right
    c.requires.near c.requires.stands c.in-Finished.ensures.answer c.in-Finished.ensures.right c.in-Some.ensures.answer
