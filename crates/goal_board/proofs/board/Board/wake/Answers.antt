-- Each turn of the walk reads the name of the next waiter before the first one's bit is cleared.
use Rattle.std.proofs.Common.{sym, ap, ◌∙◌, arith}
use Rattle.board_rule.specs.declared.hands.Hands.{Hands}
use Rattle.goal_board.specs.Seats.{hands}
use Rattle.goal_board.proofs.WokenLemmas.{woken_begins, woken_pending}
use Rattle.goal_board.proofs.Walking.{named_first, named_none, first_name_of, turns}
use Rattle.goal_board.proofs.board.Board.wake.Goals as goal

pub loop-name-init : goal.loop-name-init
loop-name-init g c =
    let b = c.args.self.now in
    let v = hands c.args.seat.now in
    record {
      seat = c.requires.seat;
      named = c.first_name-name.ensures ∙ first_name_of b.setup.capacity v.walk.waiters c.args.head b.sized.3
          c.requires.named
          c.requires.near;
      near = c.requires.near;
      few = let few = c.requires.few in omega arith;
      woken = woken_begins b.setup.capacity v;
      hints = c.requires.hints;
    }

pub read_next-name-requires-clause-may : goal.read_next-name-requires-clause-may
read_next-name-requires-clause-may g c κs within =
    let first = named_first (hands c.loop-name.seat).walk.waiters c.loop-name.name c.loop-name.invariant.named
    c.loop-name-test.true in
    record { others = first.0; first = first.1 }

pub clear_bit-requires-clause-may : goal.clear_bit-requires-clause-may
clear_bit-requires-clause-may g c κs within =
    let first = named_first (hands c.loop-name.seat).walk.waiters c.loop-name.name c.loop-name.invariant.named
    c.loop-name-test.true in
    record {
      others = first.0;
      first = ap (λ (h : Hands _). h.walk.waiters) c.read_next-name.ensures.told.hands_are ∙ first.1;
    }

pub loop-name-preserved-then-clear_bit-bit_of : goal.loop-name-preserved-then-clear_bit-bit_of
loop-name-preserved-then-clear_bit-bit_of g c =
    let inv = c.loop-name.invariant in
    let first = named_first (hands c.loop-name.seat).walk.waiters c.loop-name.name inv.named c.loop-name-test.true in
    let t = (turns first.1 inv.near inv.few inv.woken inv.seat.over c.read_next-name.ensures.seat.over
    c.read_next-name.ensures.told c.clear_bit.ensures.told).0 (c.if-clear_bit-bit_of.true ∙ c.bit_of.ensures) in
    record {
      seat = c.clear_bit.ensures.seat;
      named = t.named;
      near = t.near;
      few = t.few;
      woken = t.woken;
      hints = c.hint.ensures ∙ inv.hints;
    }

pub loop-name-preserved : goal.loop-name-preserved
loop-name-preserved g c =
    let inv = c.loop-name.invariant in
    let first = named_first (hands c.loop-name.seat).walk.waiters c.loop-name.name inv.named c.loop-name-test.true in
    let t = (turns first.1 inv.near inv.few inv.woken inv.seat.over c.read_next-name.ensures.seat.over
    c.read_next-name.ensures.told c.clear_bit.ensures.told).1
    (λ is. c.if-clear_bit-bit_of.false (is ∙ sym c.bit_of.ensures)) in
    record {
      seat = c.clear_bit.ensures.seat;
      named = t.named;
      near = t.near;
      few = t.few;
      woken = t.woken;
      hints = inv.hints;
    }

pub returns-clause-seat : goal.returns-clause-seat
returns-clause-seat g c =
    let inv = c.loop-name.invariant in
    record {
      same_table = inv.seat.same_table;
      over = inv.seat.over;
      free = record {
        no_wait = woken_pending inv.woken ∙ c.requires.no_wait;
        no_walk = named_none (hands c.loop-name.seat).walk.waiters (sym c.loop-name-test.false ∙ inv.named);
      };
    }
