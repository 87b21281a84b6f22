use Rattle.goal_space.specs.OfMembers.{asked_are_members}
use Rattle.goal_space.proofs.Asking.{member_asked}
use Rattle.goal_space.proofs.laws.goals_ask_for_members.Goals as goal

pub returns : goal.returns
returns c = record { only = asked_are_members; all = member_asked c.results_are_known.ensures.children }
