-- A goal that stands in the cell is claimed where its run word was 0.
use Rattle.std.proofs.Common.{sym, ◌∙◌, inl, inr}
use Rattle.goal_board.proofs.Findings.{finds_no_goal, claims_goal, finds_taken, finds_busy}
use Rattle.goal_board.proofs.OthersKept.{busy_keeps, claim_keeps}
use Rattle.goal_board.proofs.Told.{looks_at}
use Rattle.goal_board.proofs.board.Board.claim.Goals as goal
use Rattle.goal_board.proofs.board.Board.claim.Goals.{then-goal-eq0-via-then-goal-eq0}
use Rattle.goal_board.proofs.board.Board.claim.Goals.{then-goal-eq0-via-else-goal-eq0+then-not-is_goal}

pub returns-then-goal-eq0-clause-answer : goal.returns-then-goal-eq0-clause-answer
returns-then-goal-eq0-clause-answer g c =
    finds_no_goal c.requires.seat.over (looks_at c.cell_at.ensures c.look-goal.ensures.told)
    (elim c.then-goal-eq0.branch [
      | then-goal-eq0-via-then-goal-eq0 w ↦
          inl w.if-goal-eq0.true
      | then-goal-eq0-via-else-goal-eq0+then-not-is_goal w ↦
          inr (sym w.is_goal.ensures ∙ w.if-not-is_goal.true)
    ])

pub returns-then-run-ne0-clause-answer : goal.returns-then-run-ne0-clause-answer
returns-then-run-ne0-clause-answer g c =
    finds_taken c.requires.seat.over c.look-goal.ensures.seat.over
    (looks_at c.cell_at.ensures c.look-goal.ensures.told) c.if-goal-eq0.false
    (sym c.is_goal.ensures ∙ c.if-not-is_goal.false) (looks_at c.run_at.ensures c.look-run.ensures.told)
    c.if-run-ne0.true

pub returns-then-hold-eq0-clause-answer : goal.returns-then-hold-eq0-clause-answer
returns-then-hold-eq0-clause-answer g c =
    claims_goal c.requires.near c.requires.seat.over c.look-goal.ensures.seat.over c.look-run.ensures.seat.over
    (looks_at c.cell_at.ensures c.look-goal.ensures.told) c.if-goal-eq0.false
    (sym c.is_goal.ensures ∙ c.if-not-is_goal.false) (looks_at c.run_at.ensures c.look-run.ensures.told)
    c.if-run-ne0.false c.hold.ensures.told c.if-hold-eq0.true

pub returns-else-hold-eq0-clause-answer : goal.returns-else-hold-eq0-clause-answer
returns-else-hold-eq0-clause-answer g c =
    finds_busy c.requires.seat.over c.look-goal.ensures.seat.over c.look-run.ensures.seat.over
    (looks_at c.cell_at.ensures c.look-goal.ensures.told) c.if-goal-eq0.false
    (sym c.is_goal.ensures ∙ c.if-not-is_goal.false) (looks_at c.run_at.ensures c.look-run.ensures.told)
    c.hold.ensures.told c.if-hold-eq0.false

pub returns-then-goal-eq0-clause-others : goal.returns-then-goal-eq0-clause-others
returns-then-goal-eq0-clause-others g c = busy_keeps (returns-then-goal-eq0-clause-answer g c)

pub returns-then-run-ne0-clause-others : goal.returns-then-run-ne0-clause-others
returns-then-run-ne0-clause-others g c = busy_keeps (returns-then-run-ne0-clause-answer g c)

pub returns-then-hold-eq0-clause-others : goal.returns-then-hold-eq0-clause-others
returns-then-hold-eq0-clause-others g c = claim_keeps (returns-then-hold-eq0-clause-answer g c)

pub returns-else-hold-eq0-clause-others : goal.returns-else-hold-eq0-clause-others
returns-else-hold-eq0-clause-others g c = busy_keeps (returns-else-hold-eq0-clause-answer g c)
