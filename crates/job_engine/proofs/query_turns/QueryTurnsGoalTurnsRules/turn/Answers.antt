-- The turn is that of the goal that the right's word names; it puts in no 0.
use Rattle.std.proofs.Common.{subst}
use Rattle.goal_board.specs.Seats.{hands}
use Rattle.goal_rules.specs.Meaning.{meaning_of}
use Rattle.goal_rules.specs.declared.rules.Rules.{Rules}
use Rattle.job_turns.specs.Works.{AddsWord}
use Rattle.board_moves.specs.Turns.{Turns}
use Rattle.board_moves.proofs.EndsAlone.{turns_alone}
use Rattle.job_engine.specs.Added.{AddsOf}
use Rattle.job_engine.proofs.Wider.{turns_wider, adds_some}
use Rattle.job_engine.proofs.query_turns.QueryTurnsGoalTurnsRules.turn.Goals as goal

pub returns-clause-turns : goal.returns-clause-turns
returns-clause-turns c =
    let q = c.self.inside.rules.query.now in
    let cells = c.args.board.now.setup.capacity in
    let v = hands c.args.seat.now in
    let right = c.args.right in
    let w = hands c.turn.new.seat in
    let t = c.turn.ensures.turns in
    subst (λ (r : Rules). Turns cells (AddsOf r.query.now right.goal) v right c.args.worker c.turn.result w)
    c.self.view_is
    (turns_wider (AddsWord q t.goal) (AddsOf q right.goal) (λ word adds. (t.goal, t.names, adds)) cells v right
    c.args.worker c.turn.result w t.turns)

pub returns-clause-alone : goal.returns-clause-alone
returns-clause-alone c =
    let q = c.self.inside.rules.query.now in
    let setup = c.args.board.now.setup in
    let t = c.turn.ensures.turns in
    turns_alone (meaning_of setup.rules.query.now) setup.capacity (AddsWord q t.goal) (hands c.args.seat.now)
    c.args.right
    c.args.worker c.requires.right.near c.requires.fresh c.requires.seat.over.all (adds_some q t.goal) c.turn.result
    (hands c.turn.new.seat) t.turns
