use Rattle.std.proofs.Common.{subst}
use Rattle.xform_rules.specs.Closure.{IsMember}
use Rattle.xform_rules.proofs.membership.in_closure.Goals as goal

-- the word is that of one candidate, and members are candidates
pub returns : goal.returns
returns c =
    let q = c.args.query.now in
    let own = c.candidate_of.ensures in (
      λ yes. (c.candidate_of.result, c.in_closure_at.ensures.0 yes, own.value.1),
      λ (e, member, word).
          c.in_closure_at.ensures.1 (subst (IsMember q) (own.only e (c.members_are_candidates.ensures q e member, word))
          member),
    )
