-- Each word is found in a cell or in none.
use Rattle.std.proofs.Common.{◌+◌, ◌^◌, ◌<◌, sym, ◌∙◌, rules, arith}
use Rattle.std.proofs.lemmas.Bool.{false≢true}
use Rattle.goal_board.specs.Seats.{hands}
use Rattle.board_moves.proofs.Putting.{held_at, held_not}
use Rattle.board_moves.proofs.Seeing.{sees_in, sees_none}
use Rattle.board_moves.proofs.Passing.{passing_none, passing_next, passing_past, passed, number_fits}
use Rattle.board_moves.proofs.collection.count.Goals as goal

pub loop-word-init : goal.loop-word-init
loop-word-init g c = record {
  seat = c.requires.seat;
  pass = passing_none (g.R.GoalRules.meaning c.args.board.now.setup.rules) c.args.board.now.setup.capacity
      (g.W.Words.has c.args.group.now) (hands c.args.seat.now);
}

pub overflow_add-number : goal.overflow_add-number
overflow_add-number g c =
    let pass = c.loop-word.invariant.pass in
    let fits : c.loop-word.number + 1 < 2 ^ 64 =
    number_fits (g.W.Words.has c.args.group.now) c.loop-word.before pass.found c.loop-word.number pass.so_far
    c.in-Some.word c.in-Some.ensures c.requires.words (search rules) in
    omega arith

pub loop-word-preserved-then-holds : goal.loop-word-preserved-then-holds
loop-word-preserved-then-holds g c =
    let b = c.args.board.now in
    let meaning = g.R.GoalRules.meaning b.setup.rules in
    let at = held_at b.setup.capacity (hands c.loop-word.seat) c.in-Some.word (hands c.holds.new.seat)
    c.if-holds.ensures.answer in
    record {
      seat = c.holds.ensures.seat;
      pass = passing_next meaning b.setup.capacity (g.W.Words.has c.args.group.now) (hands c.args.seat.now)
          c.loop-word.before
          c.loop-word.number (hands c.loop-word.seat) c.loop-word.invariant.pass c.in-Some.word c.in-Some.ensures
          (hands c.holds.new.seat) (sees_in meaning b.setup.capacity (hands c.loop-word.seat) c.in-Some.word at.0
          (hands c.holds.new.seat) at.1);
    }

pub loop-word-preserved : goal.loop-word-preserved
loop-word-preserved g c =
    let b = c.args.board.now in
    let meaning = g.R.GoalRules.meaning b.setup.rules in
    record {
      seat = c.holds.ensures.seat;
      pass = passing_past meaning b.setup.capacity (g.W.Words.has c.args.group.now) (hands c.args.seat.now)
          c.loop-word.before
          c.loop-word.number (hands c.loop-word.seat) c.loop-word.invariant.pass c.in-Some.word c.in-Some.ensures
          (hands c.holds.new.seat)
          (sees_none meaning b.setup.capacity (hands c.loop-word.seat) c.in-Some.word (hands c.holds.new.seat)
          (held_not b.setup.capacity (hands c.loop-word.seat) c.in-Some.word (hands c.holds.new.seat)
          c.if-holds.ensures.answer)
          (λ shown. false≢true (sym c.if-holds.false ∙ c.holds.ensures.shown shown)));
    }

pub returns-clause-counts : goal.returns-clause-counts
returns-clause-counts g c =
    passed (g.R.GoalRules.meaning c.args.board.now.setup.rules) c.args.board.now.setup.capacity
    (g.W.Words.has c.args.group.now)
    (hands c.args.seat.now) c.loop-word.before c.loop-word.number (hands c.loop-word.seat)
    c.loop-word.invariant.pass c.in_default.ensures
