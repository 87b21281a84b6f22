-- A word is that of one goal, and best answers cost little.
use Rattle.job_turns.proofs.Chosen.{answers_known}
use Rattle.job_turns.proofs.known_best.answers_are_known.Goals as goal

pub returns : goal.returns
returns c = λ q. answers_known q c.goal_kinds_are_one.ensures.one (c.goals_are_known.ensures.words q)
    (c.goals_are_known.ensures.requests q) (c.answers_are_best.ensures.fits q)
