use Rattle.std.proofs.Common.{◌-◌}
use Rattle.xform_rules.proofs.one_order.+farthest.Given as goal

-- the part comes nearer to the set, from below or from above
abbrev pub decreases-farthest : goal.decreases-farthest
decreases-farthest l = l.set - l.part
