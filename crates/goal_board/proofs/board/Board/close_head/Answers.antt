-- A head is closed by its goal's holder.
use Rattle.std.proofs.Common.{refl, ◌∙◌, arith}
use Rattle.board_rule.specs.May.{MayClose}
use Rattle.goal_board.specs.Seats.{hands}
use Rattle.board_rule.proofs.Closing.{close_allowed}
use Rattle.goal_board.proofs.Overs.{all_changed}
use Rattle.goal_board.proofs.Seated.{lawful, still_awake, in_call_beside}
use Rattle.goal_board.proofs.board.Board.close_head.Goals as goal

pub swap-requires : goal.swap-requires
swap-requires g c =
    let b = c.args.self.now in
    let may = lawful b (λ rules capacity. MayClose (g.R.GoalRules.meaning rules) capacity (hands c.args.seat.now)
    c.args.place
    c.args._worker c.args._cost c.args._node) c.requires.may in (
      c.requires.seat.same_table,
      (let at = c.head_at.ensures in let near = c.requires.may.near in let sized = b.sized.0 in omega arith),
      close_allowed g.R.GoalRules.meaning _ _ _ _ _ _ _ _ _ _ c.head_at.ensures c.args.seat.now.awake may,
    )

pub invariant_of-seat : goal.invariant_of-seat
invariant_of-seat g c =
    let told = c.swap.ensures.2 c.args.place c.args._worker c.args._cost c.args._node c.head_at.ensures
    c.requires.may.stored in
    assumption (still_awake c.args.seat.now told.slots told.hands.leaves.hands_are c.args.seat.now.awake)

pub returns-clause-told : goal.returns-clause-told
returns-clause-told g c = (c.swap.ensures.2 c.args.place c.args._worker c.args._cost c.args._node c.head_at.ensures
    c.requires.may.stored).hands

pub returns-clause-seat : goal.returns-clause-seat
returns-clause-seat g c =
    in_call_beside (c.swap.ensures.0 ∙ c.requires.seat.same_table) (returns-clause-told g c).leaves.hands_are refl refl
    refl (λ p e. omega arith)
    (all_changed _ _ _ _ c.requires.seat.over.all) c.requires.seat.over
