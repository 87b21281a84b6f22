-- A child that was found finished has its answer; else it stands in a cell, and may be waited for.
use Rattle.std.proofs.Common.{None, Some}
use Rattle.word_table.specs.declared.outcome.Inserted.TheVariants.{Fresh, Known, Full}
use Rattle.goal_board.specs.Seats.{hands}
use Rattle.board_moves.proofs.Shown.{later_looked}
use Rattle.board_moves.proofs.OneChild.{open_looks, stands_at, stands_fresh, awaits_known, awaits_full, proceeds_fresh}
use Rattle.board_moves.proofs.OneChild.{proceeds_open, awaits_then, right_put, right_read, child_is_some}
use Rattle.board_moves.proofs.job.Job.await_child.Goals as goal

pub wait-requires-clause-right : goal.wait-requires-clause-right
wait-requires-clause-right g c κs within =
    let b = c.args.board.now in
    right_put (g.R.GoalRules.meaning b.setup.rules) b.setup.capacity c.args.self.now.right (hands c.args.seat.now)
    c.args.child
    (Fresh c.in-Fresh.at) (hands c.put_goal.new.seat) c.in-Fresh.ensures.answer c.requires.right

pub wait-requires-clause-stands : goal.wait-requires-clause-stands
wait-requires-clause-stands g c κs within =
    let laws = g.met.R.GoalRules g.world.𝓛 g.world.𝓜 g.world.𝓡 ((λ s x. x), (λ x. x), (λ x. x), λ x. x) in
    let b = c.args.board.now in
    let some_child = child_is_some c.args.child (laws.zero_enters_not b.setup.rules) (laws.children_enter b.setup.rules)
    c.requires.right c.requires.child in
    stands_fresh (g.R.GoalRules.meaning b.setup.rules) b.setup.capacity c.args.child some_child (hands c.args.seat.now)
    c.in-Fresh.at (hands c.put_goal.new.seat) c.in-Fresh.ensures.answer

pub wait-requires-in-None-clause-right : goal.wait-requires-in-None-clause-right
wait-requires-in-None-clause-right g c κs within =
    let b = c.args.board.now in
    let meaning = g.R.GoalRules.meaning b.setup.rules in
    right_read meaning b.setup.capacity c.args.self.now.right (hands c.put_goal.new.seat) c.in-Known.at None
    (hands c.answer.new.seat) c.in-None.ensures.answer
    (right_put meaning b.setup.capacity c.args.self.now.right (hands c.args.seat.now) c.args.child (Known c.in-Known.at)
    (hands c.put_goal.new.seat) c.in-Known.ensures.answer c.requires.right)

pub wait-requires-in-None-clause-stands : goal.wait-requires-in-None-clause-stands
wait-requires-in-None-clause-stands g c κs within =
    let laws = g.met.R.GoalRules g.world.𝓛 g.world.𝓜 g.world.𝓡 ((λ s x. x), (λ x. x), (λ x. x), λ x. x) in
    let b = c.args.board.now in
    let meaning = g.R.GoalRules.meaning b.setup.rules in
    let some_child = child_is_some c.args.child (laws.zero_enters_not b.setup.rules) (laws.children_enter b.setup.rules)
    c.requires.right c.requires.child in
    later_looked (hands c.put_goal.new.seat) (hands c.answer.new.seat)
    (open_looks meaning b.setup.capacity (hands c.put_goal.new.seat) c.in-Known.at (hands c.answer.new.seat)
    c.in-None.ensures.answer) _ c.args.child
    (stands_at meaning b.setup.capacity c.args.child some_child (hands c.args.seat.now) c.in-Known.at
    (hands c.put_goal.new.seat) c.in-Known.ensures.answer)

pub returns-in-Fresh-clause-awaits : goal.returns-in-Fresh-clause-awaits
returns-in-Fresh-clause-awaits g c =
    let laws = g.met.R.GoalRules g.world.𝓛 g.world.𝓜 g.world.𝓡 ((λ s x. x), (λ x. x), (λ x. x), λ x. x) in
    let b = c.args.board.now in
    let meaning = g.R.GoalRules.meaning b.setup.rules in
    let right = c.args.self.now.right in
    let some_child = child_is_some c.args.child (laws.zero_enters_not b.setup.rules) (laws.children_enter b.setup.rules)
    c.requires.right c.requires.child in
    awaits_then meaning b.setup.capacity c.args.child some_child (hands c.args.seat.now) right
    (hands c.put_goal.new.seat)
    (hands c.wait.new.seat) c.wait.new.self.right c.wait.result
    (proceeds_fresh meaning b.setup.capacity c.args.child some_child (hands c.args.seat.now) right c.in-Fresh.at
    c.requires.child (hands c.put_goal.new.seat) c.in-Fresh.ensures.answer) c.wait.ensures.awaits

pub returns-in-Some-clause-right : goal.returns-in-Some-clause-right
returns-in-Some-clause-right g c =
    let b = c.args.board.now in
    let meaning = g.R.GoalRules.meaning b.setup.rules in
    right_read meaning b.setup.capacity c.args.self.now.right (hands c.put_goal.new.seat) c.in-Known.at
    (Some c.in-Some.answer) (hands c.answer.new.seat) c.in-Some.ensures.answer
    (right_put meaning b.setup.capacity c.args.self.now.right (hands c.args.seat.now) c.args.child (Known c.in-Known.at)
    (hands c.put_goal.new.seat) c.in-Known.ensures.answer c.requires.right)

pub returns-in-Some-clause-awaits : goal.returns-in-Some-clause-awaits
returns-in-Some-clause-awaits g c =
    let laws = g.met.R.GoalRules g.world.𝓛 g.world.𝓜 g.world.𝓡 ((λ s x. x), (λ x. x), (λ x. x), λ x. x) in
    let b = c.args.board.now in
    let right = c.args.self.now.right in
    let some_child = child_is_some c.args.child (laws.zero_enters_not b.setup.rules) (laws.children_enter b.setup.rules)
    c.requires.right c.requires.child in
    awaits_known (g.R.GoalRules.meaning b.setup.rules) b.setup.capacity c.args.child some_child
    (hands c.args.seat.now) right
    c.in-Known.at c.requires.child (hands c.put_goal.new.seat) c.in-Some.answer (hands c.answer.new.seat)
    c.in-Known.ensures.answer c.in-Some.ensures.answer

pub returns-in-None-clause-awaits : goal.returns-in-None-clause-awaits
returns-in-None-clause-awaits g c =
    let laws = g.met.R.GoalRules g.world.𝓛 g.world.𝓜 g.world.𝓡 ((λ s x. x), (λ x. x), (λ x. x), λ x. x) in
    let b = c.args.board.now in
    let meaning = g.R.GoalRules.meaning b.setup.rules in
    let right = c.args.self.now.right in
    let some_child = child_is_some c.args.child (laws.zero_enters_not b.setup.rules) (laws.children_enter b.setup.rules)
    c.requires.right c.requires.child in
    awaits_then meaning b.setup.capacity c.args.child some_child (hands c.args.seat.now) right (hands c.answer.new.seat)
    (hands c.wait-in-None.new.seat) c.wait-in-None.new.self.right c.wait-in-None.result
    (proceeds_open meaning b.setup.capacity c.args.child some_child (hands c.args.seat.now) right c.in-Known.at
    c.requires.child (hands c.put_goal.new.seat) (hands c.answer.new.seat) c.in-Known.ensures.answer
    c.in-None.ensures.answer)
    c.wait-in-None.ensures.awaits

pub returns-in-Full-clause-right : goal.returns-in-Full-clause-right
returns-in-Full-clause-right g c =
    let b = c.args.board.now in
    right_put (g.R.GoalRules.meaning b.setup.rules) b.setup.capacity c.args.self.now.right (hands c.args.seat.now)
    c.args.child
    Full (hands c.put_goal.new.seat) c.in-Full.ensures.answer c.requires.right

pub returns-in-Full-clause-awaits : goal.returns-in-Full-clause-awaits
returns-in-Full-clause-awaits g c =
    let laws = g.met.R.GoalRules g.world.𝓛 g.world.𝓜 g.world.𝓡 ((λ s x. x), (λ x. x), (λ x. x), λ x. x) in
    let b = c.args.board.now in
    let right = c.args.self.now.right in
    let some_child = child_is_some c.args.child (laws.zero_enters_not b.setup.rules) (laws.children_enter b.setup.rules)
    c.requires.right c.requires.child in
    awaits_full (g.R.GoalRules.meaning b.setup.rules) b.setup.capacity c.args.child some_child (hands c.args.seat.now)
    right 0
    c.requires.child (hands c.put_goal.new.seat) c.in-Full.ensures.answer
