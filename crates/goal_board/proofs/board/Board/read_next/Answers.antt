-- A seat that walks a list looks at the next word of its first waiter.
use Rattle.std.proofs.Common.{refl, ◌∙◌, arith}
use Rattle.board_rule.proofs.WaitLooks.{read_allowed}
use Rattle.goal_board.proofs.Seated.{still_awake, in_call_beside}
use Rattle.goal_board.proofs.board.Board.read_next.Goals as goal

pub load-requires : goal.load-requires
load-requires g c =
    let b = c.args.self.now in (
      c.requires.seat.same_table,
      (let at = c.next_at.ensures in let near = c.requires.near in let sized = b.sized.0 in omega arith),
      read_allowed g.R.GoalRules.meaning _ _ _ _ _ _ _ c.next_at.ensures c.args.seat.now.awake c.requires.may,
    )

pub invariant_of-seat : goal.invariant_of-seat
invariant_of-seat g c =
    let told = c.load.ensures.2 c.args.waiter c.next_at.ensures in
    assumption (still_awake c.args.seat.now told.slots told.hands.hands_are c.args.seat.now.awake)

pub returns-clause-told : goal.returns-clause-told
returns-clause-told g c = (c.load.ensures.2 c.args.waiter c.next_at.ensures).hands

pub returns-clause-seat : goal.returns-clause-seat
returns-clause-seat g c =
    in_call_beside (c.load.ensures.0 ∙ c.requires.seat.same_table) (returns-clause-told g c).hands_are refl refl refl
    (λ p e. omega arith)
    c.requires.seat.over.all c.requires.seat.over
