-- The word of a candidate has 48 bits.
use Rattle.std.proofs.Common.{arith}
use Rattle.job_turns.proofs.group_members.ImplementedGroupMembers.goal_of.Goals as goal

pub make-requires : goal.make-requires
make-requires c =
    let (e, logical, is) = c.requires in
    let small = c.expressions_are_one.ensures.small e
    (c.candidates_are_known.ensures.packed c.args.self.now.query.now e logical.candidate) in
    omega arith
