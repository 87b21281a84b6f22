-- The holder of a right sets the bit of its next wait.
use Rattle.std.proofs.Common.{refl, ◌∙◌, arith}
use Rattle.board_rule.specs.May.{MayBegin}
use Rattle.goal_board.specs.Seats.{hands}
use Rattle.board_rule.proofs.Waiting.{begin_allowed}
use Rattle.goal_board.proofs.Overs.{all_changed}
use Rattle.goal_board.specs.RightCalls.{waiting_right}
use Rattle.goal_board.proofs.Seated.{lawful, still_awake, in_call_beside}
use Rattle.goal_board.proofs.board.Board.begin_wait.Goals as goal

pub fetch_or-requires : goal.fetch_or-requires
fetch_or-requires g c =
    let b = c.args.self.now in
    let may = lawful b (λ _ capacity. MayBegin capacity (hands c.args.seat.now)
    (waiting_right c.args.place c.args.waits)) c.requires.may in (
      c.requires.seat.same_table,
      (let at = c.run_at.ensures in let near = c.requires.may.near in let sized = b.sized.0 in omega arith),
      begin_allowed g.R.GoalRules.meaning _ _ _ _ _ _ _ _ c.run_at.ensures c.bit_of.ensures c.args.seat.now.awake may,
    )

pub invariant_of-seat : goal.invariant_of-seat
invariant_of-seat g c =
    let told = c.fetch_or.ensures.2 c.args.place c.run_at.ensures in
    assumption (still_awake c.args.seat.now told.slots told.hands.hands_are c.args.seat.now.awake)

pub returns-clause-told : goal.returns-clause-told
returns-clause-told g c = (c.fetch_or.ensures.2 c.args.place c.run_at.ensures).hands

pub returns-clause-seat : goal.returns-clause-seat
returns-clause-seat g c =
    in_call_beside (c.fetch_or.ensures.0 ∙ c.requires.seat.same_table) (returns-clause-told g c).hands_are refl refl
    refl (λ p e. omega arith)
    (all_changed _ _ _ _ c.requires.seat.over.all) c.requires.seat.over
