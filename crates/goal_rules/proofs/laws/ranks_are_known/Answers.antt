use Rattle.goal_rules.proofs.Ranked.{word_ranked}
use Rattle.goal_rules.proofs.laws.ranks_are_known.Goals as goal

pub returns : goal.returns
returns c = word_ranked c.goals_are_one.ensures.fields c.goal_kinds_are_one.ensures.fits
