-- A seat clears the bit of the wait that it was putting in.
use Rattle.std.proofs.Common.{◌-◌, ◌/◌, ◌%◌, ◌^◌, sym, refl, ap, ◌∙◌, arith}
use Rattle.board_rule.specs.Words.{run_word}
use Rattle.goal_board.specs.Seats.{hands, the_wait}
use Rattle.board_rule.proofs.Clearing.{drop_allowed}
use Rattle.goal_board.proofs.Overs.{all_changed}
use Rattle.goal_board.proofs.Seated.{still_awake, in_call_beside}
use Rattle.goal_board.proofs.board.Board.drop_wait.Goals as goal

pub fetch_and-requires : goal.fetch_and-requires
fetch_and-requires g c =
    let b = c.args.self.now in (
      c.requires.seat.same_table,
      (let at = c.run_at.ensures in let near = c.requires.near in let sized = b.sized.0 in omega arith),
      drop_allowed g.R.GoalRules.meaning _ _ _ _ _ _ (the_wait (hands c.args.seat.now)) _
          (c.run_at.ensures ∙ ap (λ q. run_word (q / 8)) (sym c.requires.waiter)) (c.all_but.ensures
          ∙ ap (λ q. 2 ^ 64 - 1 - 2 ^ (q % 8)) (sym c.requires.waiter)) c.args.seat.now.awake c.requires.may,
    )

pub invariant_of-seat : goal.invariant_of-seat
invariant_of-seat g c =
    let told = c.fetch_and.ensures.2 (the_wait (hands c.args.seat.now)) c.requires.may.is in
    assumption (still_awake c.args.seat.now told.slots told.hands.hands_are c.args.seat.now.awake)

pub returns-clause-told : goal.returns-clause-told
returns-clause-told g c = (c.fetch_and.ensures.2 (the_wait (hands c.args.seat.now)) c.requires.may.is).hands

pub returns-clause-seat : goal.returns-clause-seat
returns-clause-seat g c =
    in_call_beside (c.fetch_and.ensures.0 ∙ c.requires.seat.same_table) (returns-clause-told g c).hands_are refl refl
    refl (λ p e. omega arith)
    (all_changed _ _ _ _ c.requires.seat.over.all) c.requires.seat.over
