-- A seat that walks a list clears the bit of its first waiter.
use Rattle.std.proofs.Common.{refl, ◌∙◌, arith}
use Rattle.board_rule.proofs.Clearing.{clear_allowed}
use Rattle.goal_board.proofs.Overs.{all_changed}
use Rattle.goal_board.proofs.Seated.{still_awake, in_call_beside}
use Rattle.goal_board.proofs.board.Board.clear_bit.Goals as goal

pub fetch_and-requires : goal.fetch_and-requires
fetch_and-requires g c =
    let b = c.args.self.now in (
      c.requires.seat.same_table,
      (let at = c.run_at.ensures in let near = c.requires.near in let sized = b.sized.0 in omega arith),
      clear_allowed g.R.GoalRules.meaning _ _ _ _ _ _ _ _ c.run_at.ensures c.all_but.ensures c.args.seat.now.awake
          c.requires.may,
    )

pub invariant_of-seat : goal.invariant_of-seat
invariant_of-seat g c =
    let told = c.fetch_and.ensures.2 c.args.waiter c.requires.may.others c.requires.may.first in
    assumption (still_awake c.args.seat.now told.slots told.hands.hands_are c.args.seat.now.awake)

pub returns-clause-told : goal.returns-clause-told
returns-clause-told g c =
    (c.fetch_and.ensures.2 c.args.waiter c.requires.may.others c.requires.may.first).hands

pub returns-clause-seat : goal.returns-clause-seat
returns-clause-seat g c =
    in_call_beside (c.fetch_and.ensures.0 ∙ c.requires.seat.same_table) (returns-clause-told g c).hands_are refl refl
    refl (λ p e. omega arith)
    (all_changed _ _ _ _ c.requires.seat.over.all) c.requires.seat.over
