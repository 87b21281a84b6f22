-- Each word that is found has its goal awaited, and the others are passed.
use Rattle.std.proofs.Common.{◌+◌, ◌^◌, ◌<◌, sym, subst, ◌∙◌, rules, arith}
use Rattle.std.proofs.lemmas.Bool.{false≢true}
use Rattle.goal_board.specs.Seats.{hands}
use Rattle.board_moves.specs.Moves.{Awaits}
use Rattle.board_moves.proofs.Putting.{held_at, held_not, only_looks_held, found_enters}
use Rattle.board_moves.proofs.OneChild.{right_looked}
use Rattle.board_moves.proofs.Passing.{number_fits}
use Rattle.board_moves.proofs.Rounds.{awaiting_none, awaiting_past, awaiting_next, awaiting_full, awaited_all}
use Rattle.board_moves.proofs.awaiting.await_found.Goals as goal

pub loop-word-init : goal.loop-word-init
loop-word-init g c =
    let members = c.args.members.now in
    record {
      seat = c.requires.seat;
      right = c.requires.right;
      hints = c.requires.hints;
      awaiting = awaiting_none (g.R.GoalRules.meaning c.args.board.now.setup.rules) c.args.board.now.setup.capacity
          (g.M.Words.has members) (g.M.Members.goal_of members) (hands c.args.seat.now) c.args.job.now.right;
    }

pub await_child-requires-clause-right : goal.await_child-requires-clause-right
await_child-requires-clause-right g c κs within =
    let b = c.args.board.now in
    right_looked (g.R.GoalRules.meaning b.setup.rules) b.setup.capacity c.loop-word.job.right (hands c.loop-word.seat)
    (hands c.holds.new.seat)
    (only_looks_held b.setup.capacity (hands c.loop-word.seat) c.in-Some.word c.holds.result (hands c.holds.new.seat)
    c.holds.ensures.answer) c.loop-word.invariant.right

pub await_child-requires-clause-child : goal.await_child-requires-clause-child
await_child-requires-clause-child g c κs within =
    let b = c.args.board.now in
    let members = c.args.members.now in
    let meaning = g.R.GoalRules.meaning b.setup.rules in
    let at = held_at b.setup.capacity (hands c.loop-word.seat) c.in-Some.word (hands c.holds.new.seat)
    c.if-holds.ensures.answer in
    let has = c.in-Some.ensures.has in
    subst (meaning.child c.loop-word.job.right.goal) (sym c.goal_of-goal.ensures)
    (subst (λ k. meaning.child k (g.M.Members.goal_of members c.in-Some.word))
    (sym c.loop-word.invariant.awaiting.proceeds.same_goal)
    (c.requires.children c.in-Some.word (
      has,
      found_enters b.setup.capacity g.R.GoalRules.meaning b.setup.rules (hands c.loop-word.seat) c.in-Some.word at.0
          (hands c.holds.new.seat) c.holds.ensures.seat.over (c.requires.some_word c.in-Some.word has) at.1,
    )))

pub returns-in-Full-clause-awaits : goal.returns-in-Full-clause-awaits
returns-in-Full-clause-awaits g c =
    let b = c.args.board.now in
    let members = c.args.members.now in
    let meaning = g.R.GoalRules.meaning b.setup.rules in
    let at = held_at b.setup.capacity (hands c.loop-word.seat) c.in-Some.word (hands c.holds.new.seat)
    c.if-holds.ensures.answer in
    awaiting_full meaning b.setup.capacity (g.M.Words.has members) (g.M.Members.goal_of members) (hands c.args.seat.now)
    c.args.job.now.right c.loop-word.before c.loop-word.number (hands c.loop-word.seat) c.loop-word.job.right
    c.loop-word.invariant.awaiting c.in-Some.word c.in-Some.ensures
    (c.requires.some_word c.in-Some.word c.in-Some.ensures.has) at.0 (hands c.holds.new.seat) at.1
    (hands c.await_child.new.seat) c.await_child.new.self.right
    c.in-Full.ensures.awaits

pub overflow_add-number : goal.overflow_add-number
overflow_add-number g c =
    let t = c.loop-word.invariant.awaiting in
    let fits : c.loop-word.number + 1 < 2 ^ 64 =
    number_fits (g.M.Words.has c.args.members.now) c.loop-word.before t.found c.loop-word.number t.so_far
    c.in-Some.word c.in-Some.ensures c.requires.some_word (search rules) in
    omega arith

pub loop-word-preserved-in_default-await_child : goal.loop-word-preserved-in_default-await_child
loop-word-preserved-in_default-await_child g c =
    let b = c.args.board.now in
    let members = c.args.members.now in
    let meaning = g.R.GoalRules.meaning b.setup.rules in
    let at = held_at b.setup.capacity (hands c.loop-word.seat) c.in-Some.word (hands c.holds.new.seat)
    c.if-holds.ensures.answer in
    record {
      seat = c.await_child.ensures.seat;
      right = c.await_child.ensures.right;
      hints = c.await_child.ensures.hints ∙ c.loop-word.invariant.hints;
      awaiting = awaiting_next meaning b.setup.capacity (g.M.Words.has members) (g.M.Members.goal_of members)
          (hands c.args.seat.now) c.args.job.now.right c.loop-word.before c.loop-word.number (hands c.loop-word.seat)
          c.loop-word.job.right c.loop-word.invariant.awaiting c.in-Some.word c.in-Some.ensures
          (c.requires.some_word c.in-Some.word c.in-Some.ensures.has) at.0 (hands c.holds.new.seat) at.1
          (hands c.await_child.new.seat) c.await_child.new.self.right c.await_child.result
          c.in_default-await_child.not-Full
          (subst (λ k. Awaits meaning b.setup.capacity (hands c.holds.new.seat) c.loop-word.job.right k
          c.await_child.result
          (hands c.await_child.new.seat) c.await_child.new.self.right) c.goal_of-goal.ensures
          c.await_child.ensures.awaits);
    }

pub loop-word-preserved : goal.loop-word-preserved
loop-word-preserved g c =
    let b = c.args.board.now in
    let members = c.args.members.now in
    let meaning = g.R.GoalRules.meaning b.setup.rules in
    let none = held_not b.setup.capacity (hands c.loop-word.seat) c.in-Some.word (hands c.holds.new.seat)
    c.if-holds.ensures.answer in
    record {
      seat = c.holds.ensures.seat;
      right = right_looked meaning b.setup.capacity c.loop-word.job.right (hands c.loop-word.seat)
          (hands c.holds.new.seat)
          (only_looks_held b.setup.capacity (hands c.loop-word.seat) c.in-Some.word c.holds.result
          (hands c.holds.new.seat)
          c.holds.ensures.answer) c.loop-word.invariant.right;
      hints = c.loop-word.invariant.hints;
      awaiting = awaiting_past meaning b.setup.capacity (g.M.Words.has members) (g.M.Members.goal_of members)
          (hands c.args.seat.now) c.args.job.now.right c.loop-word.before c.loop-word.number (hands c.loop-word.seat)
          c.loop-word.job.right c.loop-word.invariant.awaiting c.in-Some.word c.in-Some.ensures (hands c.holds.new.seat)
          none (λ shown. false≢true (sym c.if-holds.false ∙ c.holds.ensures.shown shown));
    }

pub returns-clause-awaits : goal.returns-clause-awaits
returns-clause-awaits g c =
    let b = c.args.board.now in
    let members = c.args.members.now in
    awaited_all (g.R.GoalRules.meaning b.setup.rules) b.setup.capacity (g.M.Words.has members)
    (g.M.Members.goal_of members)
    (hands c.args.seat.now) c.args.job.now.right c.loop-word.before c.loop-word.number (hands c.loop-word.seat)
    c.loop-word.job.right c.loop-word.invariant.awaiting c.in_default.ensures
