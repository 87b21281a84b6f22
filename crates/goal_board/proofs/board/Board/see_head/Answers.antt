-- A seat that puts a wait in looks at a child's head.
use Rattle.std.proofs.Common.{refl, ◌∙◌, arith}
use Rattle.board_rule.specs.May.{MaySee}
use Rattle.goal_board.specs.Seats.{hands, the_wait}
use Rattle.board_rule.proofs.WaitLooks.{see_allowed}
use Rattle.goal_board.proofs.Seated.{lawful, still_awake, in_call_beside}
use Rattle.goal_board.proofs.board.Board.see_head.Goals as goal

pub load-requires : goal.load-requires
load-requires g c =
    let b = c.args.self.now in
    let may = lawful b (λ rules capacity. MaySee (g.R.GoalRules.meaning rules) capacity (hands c.args.seat.now)
    (the_wait (hands c.args.seat.now)) c.args.child)
    c.requires.may in (
      c.requires.seat.same_table,
      (let at = c.head_at.ensures in let near = c.requires.may.near in let sized = b.sized.0 in omega arith),
      see_allowed g.R.GoalRules.meaning _ _ _ _ _ _ _ _ c.head_at.ensures c.args.seat.now.awake may,
    )

pub invariant_of-seat : goal.invariant_of-seat
invariant_of-seat g c =
    let told = c.load.ensures.2 (the_wait (hands c.args.seat.now)) c.args.child c.requires.may.is c.head_at.ensures in
    assumption (still_awake c.args.seat.now told.slots told.hands.hands_are c.args.seat.now.awake)

pub returns-clause-told : goal.returns-clause-told
returns-clause-told g c = (c.load.ensures.2 (the_wait (hands c.args.seat.now)) c.args.child c.requires.may.is
    c.head_at.ensures).hands

pub returns-clause-seat : goal.returns-clause-seat
returns-clause-seat g c =
    in_call_beside (c.load.ensures.0 ∙ c.requires.seat.same_table) (returns-clause-told g c).hands_are refl refl refl
    (λ p e. omega arith)
    c.requires.seat.over.all c.requires.seat.over
