use Rattle.std.proofs.Common.{◌-◌, ◌≤◌}
use Rattle.goal_children.specs.Choices.{IsOfModesBelow}
use Rattle.goal_children.specs.Finding.{FindsFrom}
use Rattle.goal_children.proofs.choice.asked_goal_from.Given as goal

-- of the modes behind it is the first goal
abbrev pub invariant-modes : goal.invariant-modes
invariant-modes l = record {
  within : l.from ≤ 192;
  finds : FindsFrom (IsOfModesBelow l.memo.query.now l.e l.wanted l.from) l.bound l.next;
}

abbrev pub decreases-modes : goal.decreases-modes
decreases-modes l = 192 - l.from
