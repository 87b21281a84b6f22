use Rattle.std.proofs.Common.{sym, subst, ◌∙◌, ◌↔◌}
use Rattle.std.proofs.lemmas.Bool.{false≢true}
use Rattle.query_core.specs.Expressions.{IsCandidate}
use Rattle.query_core.specs.declared.expressions.Logical.{Logical}
use Rattle.xform_rules.specs.declared.rules.Rule.{Rule}
use Rattle.xform_rules.specs.Forms.{logical_in, physical_in}
use Rattle.xform_rules.specs.Closure.{IsMember}
use Rattle.xform_rules.proofs.Implementing.{IsImplemented, implemented_member, logical_candidate}
use Rattle.xform_rules.proofs.membership.is_physical_member.Goals as goal

-- the logical expression is one that the group can hold
pub is_logical_member-requires : goal.is_logical_member-requires
is_logical_member-requires c =
    subst (λ (p : Rule × Logical). IsCandidate c.args.query.now (logical_in c.args.group p.1))
    (sym c.implemented-rule.ensures)
    (logical_candidate c.args.query.now c.args.group c.args.to c.requires)

-- the expression is a member where the logical one is and the rule gives it
pub returns-then-is_logical_member : goal.returns-then-is_logical_member
returns-then-is_logical_member c =
    let q = c.args.query.now in
    let made =
    subst (λ (p : Rule × Logical). IsImplemented q p.0 (logical_in c.args.group p.1)
    (physical_in c.args.group c.args.to) ↔ IsMember q (physical_in c.args.group c.args.to))
    (sym c.implemented-rule.ensures) (implemented_member q (c.members_are_candidates.ensures q) c.args.group
    c.args.to) in (
      λ yes. made.0 (c.is_logical_member.ensures.0 c.if-is_logical_member.true, c.gives.ensures.0 yes),
      λ member. c.gives.ensures.1 (made.1 member).1,
    )

pub returns-else-is_logical_member : goal.returns-else-is_logical_member
returns-else-is_logical_member c =
    let q = c.args.query.now in
    let made =
    subst (λ (p : Rule × Logical). IsImplemented q p.0 (logical_in c.args.group p.1)
    (physical_in c.args.group c.args.to) ↔ IsMember q (physical_in c.args.group c.args.to))
    (sym c.implemented-rule.ensures) (implemented_member q (c.members_are_candidates.ensures q) c.args.group
    c.args.to) in (
      λ yes. absurd (false≢true (sym c.if-is_logical_member.false ∙ yes)),
      λ member. c.is_logical_member.ensures.1 (made.1 member).0,
    )
