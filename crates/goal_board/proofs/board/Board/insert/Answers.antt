-- A word is put where its probe ends, or is found on the way, or every cell has another word.
use Rattle.std.proofs.Common.{arith}
use Rattle.goal_board.proofs.Probes.{begins, goes_on, looks_here, may_put, may_fill, puts_fresh, finds_at, finds_full}
use Rattle.goal_board.proofs.Told.{looks_at, missed}
use Rattle.goal_board.proofs.board.Board.insert.Goals as goal

pub loop-step-init : goal.loop-step-init
loop-step-init g c = record {
  seat = c.requires.seat;
  probes = begins c.home-place.ensures.value c.args.self.now.sized.2;
}

pub look-seen-requires-clause-word : goal.look-seen-requires-clause-word
look-seen-requires-clause-word g c κs within =
    let near = c.loop-step.invariant.probes.near in let at = c.cell_at.ensures in omega arith

pub returns-then-seen-word-clause-answer : goal.returns-then-seen-word-clause-answer
returns-then-seen-word-clause-answer g c =
    let inv = c.loop-step.invariant in
    finds_at inv.probes inv.seat.over (looks_at c.cell_at.ensures c.look-seen.ensures.told) c.if-seen-word.true

pub loop-step-preserved-then-seen-ne0 : goal.loop-step-preserved-then-seen-ne0
loop-step-preserved-then-seen-ne0 g c =
    let inv = c.loop-step.invariant in
    record {
      seat = c.look-seen.ensures.seat;
      probes = goes_on inv.probes inv.seat.over c.loop-step.seat.awake
          (looks_at c.cell_at.ensures c.look-seen.ensures.told) c.if-seen-ne0.true c.if-seen-word.false
          c.loop-step-test.true c.next_place-place.ensures.value;
    }

pub put-found-requires-clause-may : goal.put-found-requires-clause-may
put-found-requires-clause-may g c κs within =
    let inv = c.loop-step.invariant in
    let laws = g.met.R.GoalRules g.world.𝓛 g.world.𝓜 g.world.𝓡 ((λ s x. x), (λ x. x), (λ x. x), λ x. x) in
    may_put (looks_here inv.probes inv.seat.over c.loop-step.seat.awake
    (looks_at c.cell_at.ensures c.look-seen.ensures.told)) c.loop-step-test.true c.requires.enters
    (laws.zero_enters_not c.args.self.now.setup.rules c.args.word c.requires.enters)

pub returns-then-found-eq0-clause-answer : goal.returns-then-found-eq0-clause-answer
returns-then-found-eq0-clause-answer g c =
    let inv = c.loop-step.invariant in
    puts_fresh (looks_here inv.probes inv.seat.over c.loop-step.seat.awake
    (looks_at c.cell_at.ensures c.look-seen.ensures.told))
    c.look-seen.ensures.seat.over c.put-found.ensures.told c.if-found-eq0.true

pub returns-then-found-word-clause-answer : goal.returns-then-found-word-clause-answer
returns-then-found-word-clause-answer g c =
    let inv = c.loop-step.invariant in
    finds_at (looks_here inv.probes inv.seat.over c.loop-step.seat.awake
    (looks_at c.cell_at.ensures c.look-seen.ensures.told)) c.look-seen.ensures.seat.over
    (missed c.put-found.ensures.told c.if-found-eq0.false) c.if-found-word.true

pub loop-step-preserved : goal.loop-step-preserved
loop-step-preserved g c =
    let inv = c.loop-step.invariant in
    record {
      seat = c.put-found.ensures.seat;
      probes = goes_on (looks_here inv.probes inv.seat.over c.loop-step.seat.awake
          (looks_at c.cell_at.ensures c.look-seen.ensures.told))
          c.look-seen.ensures.seat.over c.look-seen.new.seat.awake
          (missed c.put-found.ensures.told c.if-found-eq0.false) c.if-found-eq0.false c.if-found-word.false
          c.loop-step-test.true c.next_place-place-in-loop-step.ensures.value;
    }

pub fill-requires-clause-may : goal.fill-requires-clause-may
fill-requires-clause-may g c κs within =
    may_fill (omega (arith, c.loop-step-test.false, c.loop-step.auto._step-end)) c.args.self.now.sized.2
    c.loop-step.invariant.probes c.requires.enters

pub returns-clause-answer : goal.returns-clause-answer
returns-clause-answer g c = finds_full (omega (arith, c.loop-step-test.false, c.loop-step.auto._step-end))
    c.args.self.now.sized.2 c.loop-step.invariant.probes c.fill.ensures.hands
