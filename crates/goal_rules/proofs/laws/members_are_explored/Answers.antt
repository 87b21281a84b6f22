use Rattle.goal_rules.proofs.Growing.{grown}
use Rattle.goal_rules.proofs.laws.members_are_explored.Goals as goal

pub returns : goal.returns
returns c q = let known = c.results_are_known.ensures in grown q (known.applies q) (known.logical q) (known.explored q)
