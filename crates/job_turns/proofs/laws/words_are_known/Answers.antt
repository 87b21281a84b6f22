-- A word is that of one goal.
use Rattle.job_turns.proofs.Naming.{children_known, asked_known, children_worded}
use Rattle.job_turns.proofs.laws.words_are_known.Goals as goal

pub returns-clause-children : goal.returns-clause-children
returns-clause-children c = λ q. children_known q c.goal_kinds_are_one.ensures.one (c.goals_are_known.ensures.words q)

pub returns-clause-asked : goal.returns-clause-asked
returns-clause-asked c = λ q. asked_known q c.goal_kinds_are_one.ensures.one (c.goals_are_known.ensures.words q)

pub returns-clause-words : goal.returns-clause-words
returns-clause-words c = λ q. children_worded q (c.goals_are_known.ensures.words q)
