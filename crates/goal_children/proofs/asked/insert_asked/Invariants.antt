use Rattle.std.proofs.Common.{◌-◌}
use Rattle.goal_children.specs.Choices.{IsOfModesBelow}
use Rattle.goal_children.specs.Finding.{InsertsGoals}
use Rattle.goal_children.proofs.asked.insert_asked.Given as goal

-- the goals of the modes behind came to their places
abbrev pub invariant-modes : goal.invariant-modes
invariant-modes l = InsertsGoals (IsOfModesBelow l.memo.query.now l.e l.wanted l.from) l.initial.goals.items
    l.goals.items

abbrev pub decreases-modes : goal.decreases-modes
decreases-modes l = 192 - l.from
