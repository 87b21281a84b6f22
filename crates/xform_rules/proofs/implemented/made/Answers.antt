use Rattle.std.proofs.Common.{subst, sym}
use Rattle.xform_rules.specs.Implemented.{index_of, IsAllowed, IsMadeBy, Makes}
use Rattle.xform_rules.proofs.Findings.{finds_as}
use Rattle.xform_rules.proofs.Making.{allowed_one}
use Rattle.xform_rules.proofs.implemented.made.Goals as goal

-- the n-th operator has one index
pub returns-in-Some : goal.returns-in-Some
returns-in-Some c =
    let q = c.args.query.now in
    let allowed = IsAllowed q c.args.group c.args.from c.args.condition c.args.n in
    let index = c.in-Some.index in
    finds_as (IsMadeBy c.args.rule c.args.group c.args.from index)
    (Makes q c.args.rule c.args.condition c.args.group c.args.from c.args.n)
    (λ to (rule, from, is). (rule, from, subst allowed (sym is) c.in-Some.ensures))
    (λ to (rule, from, may). (
      rule,
      from,
      allowed_one q c.args.group c.args.from c.args.condition c.args.n (index_of to) index may c.in-Some.ensures,
    ))
    c.made_by.result c.made_by.ensures

-- there is none
pub returns-in-None : goal.returns-in-None
returns-in-None c to (rule, from, may) = c.in-None.ensures (index_of to) may
