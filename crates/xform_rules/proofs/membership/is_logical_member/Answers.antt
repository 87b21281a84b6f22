use Rattle.std.proofs.Common.{refl, sym, subst, ◌∙◌, ◌↔◌, ◌⊎◌, inl, inr, IsTrue, true}
use Rattle.std.proofs.lemmas.Bool.{false≢true}
use Rattle.query_core.specs.Expressions.{HasLogical, IsCandidate, children_of, AreInRange}
use Rattle.query_core.specs.declared.expressions.Operator.TheVariants as operators
use Rattle.xform_rules.specs.declared.rules.Rule.TheVariants as rules
use Rattle.xform_rules.specs.Rules.{IsOn}
use Rattle.xform_rules.specs.Forms.{logical_in}
use Rattle.xform_rules.specs.SplitAgg.{GroupsInput}
use Rattle.xform_rules.specs.Closure.{IsMember}
use Rattle.xform_rules.proofs.SplitMembers.{get_logical, filter_logical, partial_logical, agg_logical}
use Rattle.xform_rules.proofs.JoinMembers.{join_falls, join_is}
use Rattle.xform_rules.proofs.membership.is_logical_member.Goals as goal

-- the groups are those of queries
pub tables-requires : goal.tables-requires
tables-requires c = (c.candidates_are_known.ensures.packed c.args.query.now (logical_in c.args.group c.args.from)
    c.requires).group

pub tables-requires-in-Join : goal.tables-requires-in-Join
tables-requires-in-Join c = (c.candidates_are_known.ensures.packed c.args.query.now
    (logical_in c.args.group c.args.from) c.requires).group

pub tables-requires-in-Join-2 : goal.tables-requires-in-Join-2
tables-requires-in-Join-2 c =
    let packed = c.candidates_are_known.ensures.packed c.args.query.now (logical_in c.args.group c.args.from)
    c.requires in
    (subst (λ o. AreInRange (children_of (operators.Logical o))) c.in-Join.is packed.children).0

pub tables-requires-in-Join-3 : goal.tables-requires-in-Join-3
tables-requires-in-Join-3 c =
    let packed = c.candidates_are_known.ensures.packed c.args.query.now (logical_in c.args.group c.args.from)
    c.requires in
    (subst (λ o. AreInRange (children_of (operators.Logical o))) c.in-Join.is packed.children).1

-- the sides are sets that the set falls into, and the expression is their join
pub has_join-requires-clause-falls : goal.has_join-requires-clause-falls
has_join-requires-clause-falls c =
    join_falls c.args.query.now c.args.group c.tables-in-Join.result c.tables-in-Join.ensures c.in-Join.left
    c.in-Join.right c.tables-in-Join-2.result
    c.tables-in-Join-3.result c.tables-in-Join-2.ensures c.tables-in-Join-3.ensures
    (subst (HasLogical c.args.query.now c.args.group) c.in-Join.is c.requires.shape)

pub returns-in-Join : goal.returns-in-Join
returns-in-Join c =
    let q = c.args.query.now in
    let joins =
    join_is q c.args.group c.tables-in-Join.result c.tables-in-Join.ensures c.in-Join.left c.in-Join.right
    c.tables-in-Join-2.result c.tables-in-Join-3.result
    c.tables-in-Join-2.ensures c.tables-in-Join-3.ensures
    (subst (HasLogical q c.args.group) c.in-Join.is c.requires.shape) in
    subst (λ o. IsTrue c.has_join.result ↔ IsMember q (logical_in c.args.group o)) (sym c.in-Join.is)
    (subst (λ e. IsTrue c.has_join.result ↔ IsMember q e) (sym joins) c.has_join.ensures)

-- every table's rows are a member
pub returns-in-Get : goal.returns-in-Get
returns-in-Get c =
    let q = c.args.query.now in
    let candidate = subst (λ o. IsCandidate q (logical_in c.args.group o)) c.in-Get.is c.requires in
    subst (λ o. IsTrue true ↔ IsMember q (logical_in c.args.group o)) (sym c.in-Get.is)
    (λ yes. get_logical q (c.members_are_candidates.ensures q) c.args.group candidate, λ member. refl)

pub returns-in-Select : goal.returns-in-Select
returns-in-Select c =
    let q = c.args.query.now in
    let candidate = subst (λ o. IsCandidate q (logical_in c.args.group o)) c.in-Select.is c.requires in
    subst (λ o. IsTrue true ↔ IsMember q (logical_in c.args.group o)) (sym c.in-Select.is) (
      λ yes. filter_logical q (c.members_are_candidates.ensures q) c.args.group c.in-Select.field-0 candidate,
      λ member.
          refl,
    )

-- groups that are not complete come by SplitAgg
pub returns-in-Partial : goal.returns-in-Partial
returns-in-Partial c =
    let q = c.args.query.now in
    let candidate = subst (λ o. IsCandidate q (logical_in c.args.group o)) c.in-Partial.is c.requires in
    let splits = partial_logical q (c.members_are_candidates.ensures q) c.args.group c.in-Partial.field-0 candidate in
    subst (λ o. IsTrue c.is_on-in-Partial.result ↔ IsMember q (logical_in c.args.group o)) (sym c.in-Partial.is)
    (λ yes. splits.0 (c.is_on-in-Partial.ensures.0 yes), λ member. c.is_on-in-Partial.ensures.1 (splits.1 member))

-- grouping of all rows is a member, and grouping of groups that are not complete comes by SplitAgg
pub returns-then-groups_input : goal.returns-then-groups_input
returns-then-groups_input c =
    let q = c.args.query.now in
    let candidate = subst (λ o. IsCandidate q (logical_in c.args.group o)) c.in-Agg.is c.requires in
    let either : (GroupsInput q c.args.from ⊎ IsOn q rules.SplitAgg)
    ↔ IsMember q (logical_in c.args.group c.args.from) =
    subst (λ o. (GroupsInput q o ⊎ IsOn q rules.SplitAgg) ↔ IsMember q (logical_in c.args.group o)) (sym c.in-Agg.is)
    (agg_logical q (c.members_are_candidates.ensures q) c.args.group c.in-Agg.field-0 candidate) in
    (λ yes. either.0 (inl (c.groups_input.ensures.0 yes)), λ member. c.if-groups_input.true)

pub returns-else-groups_input : goal.returns-else-groups_input
returns-else-groups_input c =
    let q = c.args.query.now in
    let candidate = subst (λ o. IsCandidate q (logical_in c.args.group o)) c.in-Agg.is c.requires in
    let either : (GroupsInput q c.args.from ⊎ IsOn q rules.SplitAgg)
    ↔ IsMember q (logical_in c.args.group c.args.from) =
    subst (λ o. (GroupsInput q o ⊎ IsOn q rules.SplitAgg) ↔ IsMember q (logical_in c.args.group o)) (sym c.in-Agg.is)
    (agg_logical q (c.members_are_candidates.ensures q) c.args.group c.in-Agg.field-0 candidate) in (
      λ yes. either.0 (inr (c.is_on.ensures.0 yes)),
      λ member. elim (either.1 member) [
        | inl input ↦ absurd (false≢true (sym c.if-groups_input.false ∙ c.groups_input.ensures.1 input))
        | inr on ↦ c.is_on.ensures.1 on
      ],
    )
