-- As many words in the second pass as in the first are the same words, and all members.
use Rattle.goal_board.specs.Seats.{hands}
use Rattle.board_moves.proofs.Settling.{settles_looks, settles_promise, settles_more}
use Rattle.board_moves.proofs.collection.settle.Goals as goal

pub returns-then-first-second-clause-settles : goal.returns-then-first-second-clause-settles
returns-then-first-second-clause-settles g c =
    let b = c.args.board.now in
    let group = c.args.group.now in
    let meaning = g.R.GoalRules.meaning b.setup.rules in (
      settles_looks meaning b.setup.capacity (g.W.Words.has group) (g.W.Members.goal_of group) (g.W.Group.origin group)
          (g.W.Group.goal group) c.requires.group (hands c.args.seat.now) (hands c.collect.new.seat)
          (hands c.count-second.new.seat) c.in-Ok.first c.count-second.result
          c.in-Ok.ensures.collects c.count-second.ensures.counts,
      settles_promise meaning b.setup.capacity (g.W.Words.has group) (g.W.Members.goal_of group)
          (g.W.Group.origin group)
          (g.W.Group.goal group) c.requires.group (hands c.args.seat.now) (hands c.collect.new.seat)
          (hands c.count-second.new.seat) c.in-Ok.first c.count-second.result
          c.in-Ok.ensures.collects c.count-second.ensures.counts c.if-first-second.true c.requires.origin,
    )

pub returns-else-first-second-clause-settles : goal.returns-else-first-second-clause-settles
returns-else-first-second-clause-settles g c =
    let b = c.args.board.now in
    let group = c.args.group.now in
    settles_more (g.R.GoalRules.meaning b.setup.rules) b.setup.capacity (g.W.Words.has group)
    (g.W.Members.goal_of group)
    (g.W.Group.origin group) (g.W.Group.goal group) c.requires.group (hands c.args.seat.now)
    (hands c.collect.new.seat) (hands c.count-second.new.seat) c.in-Ok.first c.count-second.result
    c.in-Ok.ensures.collects c.count-second.ensures.counts c.if-first-second.false
