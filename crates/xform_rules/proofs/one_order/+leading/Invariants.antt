use Rattle.std.proofs.Common.{◌+◌, ◌*◌, ◌^◌}
use Rattle.xform_rules.proofs.one_order.+leading.Given as goal

-- the set gets less, or else what it begins with
abbrev pub decreases-leads_to : goal.decreases-leads_to
decreases-leads_to l = l.set * 2 ^ 32 + 4294967295

abbrev pub decreases-leads_beside : goal.decreases-leads_beside
decreases-leads_beside l = l.set * 2 ^ 32 + l.start
