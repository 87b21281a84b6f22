use Rattle.std.proofs.Common.{◌≤◌, ◌-◌}
use Rattle.goal_children.proofs.Listing.{ArePassed}
use Rattle.goal_children.proofs.children.nth_child.Given as goal

-- the children up to the one before were passed, and so many they are
abbrev pub invariant-children : goal.invariant-children
invariant-children l = record {
  few : l.passed ≤ l.n;
  passed : ArePassed l.memo.query.now l.memo.members.now l.goal l.after l.passed;
}

abbrev pub decreases-children : goal.decreases-children
decreases-children l = l.n - l.passed
