-- The origin of a group of the query has a word.
use Rattle.std.proofs.Common.{sym, subst}
use Rattle.query_core.specs.Expressions.{origin_of, IsPacked}
use Rattle.job_turns.proofs.group_members.ExploredGroupGroup.origin.Goals as goal

pub make-requires : goal.make-requires
make-requires c =
    let q = c.args.self.now.query.now in
    let group = c.args.self.now.group in
    let known = c.candidates_are_known.ensures in
    subst IsPacked (sym c.origin_of_group.ensures)
    (known.packed q (origin_of q group) (known.origins q group c.requires.0))
