use Rattle.std.proofs.Common.{◌+◌, arith}
use Rattle.xform_rules.specs.Held.{sides}
use Rattle.xform_rules.proofs.Validity.{held_valid, group_some}
use Rattle.xform_rules.proofs.EveryGroup.{every_group, every_split}
use Rattle.xform_rules.proofs.HeldMembers.{group_held, join_held}
use Rattle.xform_rules.proofs.splits.splits_are_complete.Goals as goal

-- what is held of sets is what the closure has, and it is every connected set and every way to fall into two
pub returns : goal.returns
returns c =
    let candidates = c.members_are_candidates.ensures in
    record {
      groups = λ q set on known. (group_held q (candidates q) set known).1
          (every_group q on set (group_some q set known) known.0 known.2);
      splits = λ q set a b on known. (
        λ member. (held_valid q (sides set a b) ((join_held q (candidates q) set a b).0 member)).1,
        λ falls. (join_held q (candidates q) set a b).1
            (every_split q on (set + 1) set a b (omega arith)
            (every_group q on set (group_some q set known) known.0 known.2) falls),
      );
    }
