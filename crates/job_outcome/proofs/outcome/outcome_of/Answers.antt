-- The look-up of the root's goal decides.
use Rattle.std.proofs.Common.{sym, subst}
use Rattle.goal_board.specs.Closing.{HasFinished}
use Rattle.job_outcome.proofs.Outcomes.{tells_done}
use Rattle.job_outcome.proofs.outcome.outcome_of.Goals as goal

-- it was found
pub returns-in-Some : goal.returns-in-Some
returns-in-Some c =
    let q = c.args.rules.now.query.now in
    tells_done q c.args.capacity (record { board = c.args.board })
    (subst (HasFinished c.args.board) c.requires.root (c.in-Some.ensures.found.0, c.in-Some.ensures.found.1))
    (c.answers_are_best.ensures.fits q) (c.goals_are_known.ensures.requests q) (c.goals_ask_for_members.ensures.all q)
    (c.members_are_known.ensures.small q)

-- it was not
pub left_open-requires-clause-open_root : goal.left_open-requires-clause-open_root
left_open-requires-clause-open_root c has =
    c.in-None.ensures.none (subst (HasFinished c.args.board) (sym c.requires.root) has)
