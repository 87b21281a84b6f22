-- The answer words of a goal whose head was found closed.
use Rattle.goal_board.proofs.AnswerFindings.{finds_open, seen_closed, reads_answer}
use Rattle.goal_board.proofs.Told.{looks_at}
use Rattle.goal_board.proofs.board.Board.answer.Goals as goal

pub returns-then-look-lt-CLOSED-clause-answer : goal.returns-then-look-lt-CLOSED-clause-answer
returns-then-look-lt-CLOSED-clause-answer g c =
    let laws = g.met.R.GoalRules g.world.𝓛 g.world.𝓜 g.world.𝓡 ((λ s x. x), (λ x. x), (λ x. x), λ x. x) in
    let rules = c.args.self.now.setup.rules in
    finds_open (λ goal child enters is. (laws.children_enter rules goal child enters is).1)
    (g.R.GoalRules.rank_of rules) (laws.ranks_fall rules)
    c.requires.near c.requires.seat.over c.requires.seat.free (looks_at c.head_at.ensures c.look.ensures.told)
    c.if-look-lt-CLOSED.true

pub returns-then-look-lt-CLOSED-clause-shown : goal.returns-then-look-lt-CLOSED-clause-shown
returns-then-look-lt-CLOSED-clause-shown g c shows =
    absurd (seen_closed c.args.at c.requires.seat.over (looks_at c.head_at.ensures c.look.ensures.told)
    c.if-look-lt-CLOSED.true shows)

pub returns-clause-answer : goal.returns-clause-answer
returns-clause-answer g c =
    let laws = g.met.R.GoalRules g.world.𝓛 g.world.𝓜 g.world.𝓡 ((λ s x. x), (λ x. x), (λ x. x), λ x. x) in
    reads_answer (laws.answers_are_one c.args.self.now.setup.rules) c.requires.near c.requires.seat.over
    c.look.ensures.seat.over c.look-cost.ensures.seat.over c.look-cost.new.seat.awake
    (looks_at c.head_at.ensures c.look.ensures.told) (looks_at c.cost_at.ensures c.look-cost.ensures.told)
    (looks_at c.node_at.ensures c.look-node.ensures.told) c.if-look-lt-CLOSED.false
