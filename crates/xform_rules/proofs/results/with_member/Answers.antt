use Rattle.std.proofs.Common.{◌≡◌}
use Rattle.xform_rules.specs.Forms.{IsLogical}
use Rattle.xform_rules.specs.JoinAssociate.{Associates}
use Rattle.xform_rules.specs.Results.{GivesBound}
use Rattle.xform_rules.proofs.Findings.{first_logical, finds_as}
use Rattle.xform_rules.proofs.results.with_member.Goals as goal

-- there is one result at most
pub returns-in-JoinAssociate : goal.returns-in-JoinAssociate
returns-in-JoinAssociate c =
    let Found = Associates c.args.query.now c.args.from c.args.bound in
    finds_as (λ to. (c.args.n ≡ 0) × IsLogical Found to)
    (GivesBound c.args.query.now c.args.rule c.args.from c.args.bound c.args.n)
    (λ to (first, gives). (c.in-JoinAssociate.is, first, gives))
    (λ to (rule, first, gives). (first, gives))
    c.explored.result
    (first_logical Found c.args.n c.associated.result c.explored.result c.explored.ensures.first
    c.explored.ensures.others c.associated.ensures)
