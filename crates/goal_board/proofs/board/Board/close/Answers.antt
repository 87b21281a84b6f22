-- The seat that has all parts is the last one, and the board's words are as it leaves them.
use Rattle.std.proofs.Common.{refl, subst}
use Rattle.board_rule.specs.Words.{mem}
use Rattle.board_rule.specs.Soundness.{IsSound}
use Rattle.board_rule.specs.declared.law.Setup.{Setup}
use Rattle.goal_board.specs.Seats.{hands}
use Rattle.goal_board.specs.Closed.{HasWorkers}
use Rattle.goal_board.proofs.LastSeat.{has_workers, closes_with}
use Rattle.goal_board.proofs.board.Board.close.Goals as goal

pub invariant_of-result-clause-workers : goal.invariant_of-result-clause-workers
invariant_of-result-clause-workers g c =
    let b = c.args.self in
    let last = c.close_with-words.ensures.values.2 in
    let v = hands c.args.seat in
    let sound = subst (λ (k : Setup _). IsSound (g.R.GoalRules.meaning k.rules) k.rules k.capacity last.0.words
    last.0.views)
    b.keyed last.1.0 in
    subst (λ ws. HasWorkers (mem ws) b.setup.capacity) last.2
    (has_workers (g.R.GoalRules.meaning b.setup.rules) b.setup.rules b.setup.capacity last.0.words last.0.views sound
    c.args.seat.seat.id v last.1.1 c.requires.parts)

pub returns : goal.returns
returns g c =
    let laws = g.met.R.GoalRules g.world.𝓛 g.world.𝓜 g.world.𝓡 ((λ s x. x), (λ x. x), (λ x. x), λ x. x) in
    let b = c.args.self in
    let last = c.close_with-words.ensures.values.2 in
    let v = hands c.args.seat in
    let sound = subst (λ ws. IsSound (g.R.GoalRules.meaning b.setup.rules) b.setup.rules b.setup.capacity ws
    last.0.views) last.2
    (subst (λ (k : Setup _). IsSound (g.R.GoalRules.meaning k.rules) k.rules k.capacity last.0.words last.0.views)
    b.keyed
    last.1.0) in
    closes_with g.R.GoalRules.meaning b.setup.rules b.setup.capacity _ last.0.views refl sound
    c.args.seat.seat.id v last.1.1 c.requires.parts c.requires.rights c.requires.seat.free
    (λ goal child enters is. (laws.children_enter b.setup.rules goal child enters is).1)
    (g.R.GoalRules.rank_of b.setup.rules) (laws.ranks_fall b.setup.rules)
