-- A word is found where its probe leads, and one that the looks show is found.
use Rattle.std.proofs.Common.{arith}
use Rattle.goal_board.proofs.Probes.{begins, goes_on, finds_at, ends_at_gap, finds_none, not_at_gap, not_once_round}
use Rattle.goal_board.proofs.Told.{looks_at}
use Rattle.goal_board.proofs.board.Board.find.Goals as goal

pub loop-step-init : goal.loop-step-init
loop-step-init g c = record { seat = c.requires; probes = begins c.home-place.ensures.value c.args.self.now.sized.2 }

pub look-found-requires-clause-word : goal.look-found-requires-clause-word
look-found-requires-clause-word g c κs within =
    let near = c.loop-step.invariant.probes.near in let at = c.cell_at.ensures in omega arith

pub returns-then-found-eq0-clause-answer : goal.returns-then-found-eq0-clause-answer
returns-then-found-eq0-clause-answer g c =
    let inv = c.loop-step.invariant in
    ends_at_gap inv.probes inv.seat.over c.loop-step.seat.awake
    (looks_at c.cell_at.ensures c.look-found.ensures.told) c.if-found-eq0.true c.loop-step-test.true

pub returns-then-found-eq0-clause-shown : goal.returns-then-found-eq0-clause-shown
returns-then-found-eq0-clause-shown g c shows =
    let inv = c.loop-step.invariant in
    absurd (not_at_gap inv.probes inv.seat.over (looks_at c.cell_at.ensures c.look-found.ensures.told)
    c.if-found-eq0.true c.loop-step-test.true shows)

pub returns-then-found-word-clause-answer : goal.returns-then-found-word-clause-answer
returns-then-found-word-clause-answer g c =
    let inv = c.loop-step.invariant in
    finds_at inv.probes inv.seat.over (looks_at c.cell_at.ensures c.look-found.ensures.told) c.if-found-word.true

pub loop-step-preserved : goal.loop-step-preserved
loop-step-preserved g c =
    let inv = c.loop-step.invariant in
    record {
      seat = c.look-found.ensures.seat;
      probes = goes_on inv.probes inv.seat.over c.loop-step.seat.awake
          (looks_at c.cell_at.ensures c.look-found.ensures.told) c.if-found-eq0.false c.if-found-word.false
          c.loop-step-test.true c.next_place-place.ensures.value;
    }

pub returns-clause-answer : goal.returns-clause-answer
returns-clause-answer g c = finds_none (omega (arith, c.loop-step-test.false, c.loop-step.auto._step-end))
    c.args.self.now.sized.2 c.loop-step.invariant.probes

pub returns-clause-shown : goal.returns-clause-shown
returns-clause-shown g c shows = absurd (not_once_round
    (omega (arith, c.loop-step-test.false, c.loop-step.auto._step-end)) c.args.self.now.sized.2
    c.loop-step.invariant.probes shows)
