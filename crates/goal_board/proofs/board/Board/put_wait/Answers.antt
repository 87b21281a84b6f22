-- A seat that puts a wait in makes its waiter the first of the child's list.
use Rattle.std.proofs.Common.{sym, refl, ap, ◌∙◌, arith}
use Rattle.board_rule.specs.Words.{head_word}
use Rattle.board_rule.specs.Waiters.{pushed}
use Rattle.goal_board.specs.Seats.{AreHandsOver, hands, the_wait}
use Rattle.board_rule.proofs.Pushing.{push_allowed}
use Rattle.goal_board.proofs.Overs.{over_beside, all_changed}
use Rattle.goal_board.proofs.Told.{either_way}
use Rattle.goal_board.proofs.Seated.{lawful, awake_either_way}
use Rattle.goal_board.proofs.board.Board.put_wait.Goals as goal
use Rattle.board_rule.specs.May.{MayPush}

pub compare_exchange-requires : goal.compare_exchange-requires
compare_exchange-requires g c =
    let b = c.args.self.now in
    let v = hands c.args.seat.now in
    let may = lawful b (λ _ capacity. MayPush capacity v (the_wait v) c.args.head) c.requires.may in (
      c.requires.seat.same_table,
      (let at = c.head_at.ensures in let near = c.requires.near in let sized = b.sized.0 in omega arith),
      push_allowed g.R.GoalRules.meaning _ _ _ _ _ _ (the_wait v) _ _
          (c.head_at.ensures ∙ ap head_word (sym c.requires.child)) (ap (pushed c.args.head) (sym c.requires.waiter))
          c.args.seat.now.awake may,
    )

-- either way the seat is awake, and its hands are over the board's rules
pub invariant_of-seat : goal.invariant_of-seat
invariant_of-seat g c =
    let s = c.args.seat.now in
    let may = c.requires.may in
    let told = c.compare_exchange.ensures.2 (the_wait (hands s)) may.is may.seen in
    assumption (awake_either_way s told.slots told.hands.hit told.hands.miss s.awake s.awake)

pub returns-clause-told : goal.returns-clause-told
returns-clause-told g c =
    let may = c.requires.may in (c.compare_exchange.ensures.2 (the_wait (hands c.args.seat.now)) may.is may.seen).hands

pub returns-clause-seat : goal.returns-clause-seat
returns-clause-seat g c =
    let b = c.args.self.now in
    let told = returns-clause-told g c in
    let over = c.requires.seat.over in
    record {
      same_table = c.compare_exchange.ensures.0 ∙ c.requires.seat.same_table;
      over = either_way (AreHandsOver g.R.GoalRules.meaning b.setup.rules b.setup.capacity) told.hit told.miss
          (over_beside g.R.GoalRules.meaning _ _ _ _ _ _ refl refl refl (λ p e. omega arith)
          (all_changed _ _ _ _ over.all) over)
          (over_beside g.R.GoalRules.meaning _ _ _ _ _ _ refl refl refl (λ p e. omega arith) over.all over);
    }
