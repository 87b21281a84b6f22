-- Each word is found in no cell, or in one with its goal finished, until one is met whose goal isn't.
use Rattle.std.proofs.Common.{◌+◌, ◌^◌, ◌<◌, rules, arith}
use Rattle.goal_board.specs.Seats.{hands}
use Rattle.board_moves.proofs.Passing.{collecting_none, collecting_next, collecting_past, collected, meets_open}
use Rattle.board_moves.proofs.Passing.{number_fits}
use Rattle.board_moves.proofs.collection.collect.Goals as goal

pub loop-word-init : goal.loop-word-init
loop-word-init g c = record {
  seat = c.requires.seat;
  pass = collecting_none (g.R.GoalRules.meaning c.args.board.now.setup.rules) c.args.board.now.setup.capacity
      (g.W.Words.has c.args.group.now) (hands c.args.seat.now) (g.W.Members.goal_of c.args.group.now);
}

pub overflow_add-number : goal.overflow_add-number
overflow_add-number g c =
    let pass = c.loop-word.invariant.pass.pass in
    let fits : c.loop-word.number + 1 < 2 ^ 64 =
    number_fits (g.W.Words.has c.args.group.now) c.loop-word.before pass.found c.loop-word.number pass.so_far
    c.in-Some.word c.in-Some.ensures c.requires.group.some_word (search rules) in
    omega arith

pub loop-word-preserved-in-Absent : goal.loop-word-preserved-in-Absent
loop-word-preserved-in-Absent g c =
    let b = c.args.board.now in
    record {
      seat = c.see.ensures.seat;
      pass = collecting_past (g.R.GoalRules.meaning b.setup.rules) b.setup.capacity (g.W.Words.has c.args.group.now)
          (hands c.args.seat.now) (g.W.Members.goal_of c.args.group.now) c.loop-word.before c.loop-word.number
          (hands c.loop-word.seat)
          c.loop-word.invariant.pass c.in-Some.word c.in-Some.ensures (hands c.see.new.seat) c.in-Absent.ensures.sees;
    }

pub loop-word-preserved : goal.loop-word-preserved
loop-word-preserved g c =
    let b = c.args.board.now in
    let sees = c.in-Explored.ensures.sees in
    record {
      seat = c.see.ensures.seat;
      pass = collecting_next (g.R.GoalRules.meaning b.setup.rules) b.setup.capacity (g.W.Words.has c.args.group.now)
          (hands c.args.seat.now) (g.W.Members.goal_of c.args.group.now) c.loop-word.before c.loop-word.number
          (hands c.loop-word.seat)
          c.loop-word.invariant.pass c.in-Some.word c.in-Some.ensures (hands c.see.new.seat) sees.0 sees.1;
    }

pub returns-in-Unexplored-clause-collects : goal.returns-in-Unexplored-clause-collects
returns-in-Unexplored-clause-collects g c =
    let b = c.args.board.now in
    meets_open (g.R.GoalRules.meaning b.setup.rules) b.setup.capacity (g.W.Words.has c.args.group.now)
    (hands c.args.seat.now)
    (g.W.Members.goal_of c.args.group.now) c.loop-word.before c.loop-word.number (hands c.loop-word.seat)
    c.loop-word.invariant.pass.pass c.in-Unexplored.goal (hands c.see.new.seat) c.in-Unexplored.ensures.sees

pub returns-clause-collects : goal.returns-clause-collects
returns-clause-collects g c =
    collected (g.R.GoalRules.meaning c.args.board.now.setup.rules) c.args.board.now.setup.capacity
    (g.W.Words.has c.args.group.now) (hands c.args.seat.now) (g.W.Members.goal_of c.args.group.now)
    c.loop-word.before c.loop-word.number (hands c.loop-word.seat)
    c.loop-word.invariant.pass c.in_default.ensures
