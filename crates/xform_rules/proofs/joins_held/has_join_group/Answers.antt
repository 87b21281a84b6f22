use Rattle.std.proofs.Common.{refl, sym, subst, ◌∙◌, ◌↔◌}
use Rattle.std.proofs.lemmas.Bool.{false≢true}
use Rattle.xform_rules.specs.OneOrder.{CutsDownTo, LeadsTo}
use Rattle.xform_rules.specs.Splits.{HasJoinGroup}
use Rattle.xform_rules.proofs.HeldJoins.{group_without, group_alone}
use Rattle.xform_rules.proofs.joins_held.has_join_group.Goals as goal

-- without JoinAssociate the groups are what all tables begin with
pub returns-then-not-is_on : goal.returns-then-not-is_on
returns-then-not-is_on c =
    let q = c.args.query.now in
    let groups : CutsDownTo q c.all.result c.args.set ↔ HasJoinGroup q c.args.set =
    subst (λ x. CutsDownTo q x c.args.set ↔ HasJoinGroup q c.args.set) (sym c.all.ensures)
    (group_without q (c.members_are_candidates.ensures q) c.args.set c.requires
    (λ on. false≢true (sym c.if-not-is_on.true ∙ c.is_on.ensures.1 on))) in
    (λ yes. groups.0 (c.begins_with.ensures.0 yes), λ member. c.begins_with.ensures.1 (groups.1 member))

-- with JoinAssociate alone they are what the group of all tables leads to
pub returns-then-not-is_on-2 : goal.returns-then-not-is_on-2
returns-then-not-is_on-2 c =
    let q = c.args.query.now in
    let groups : LeadsTo q c.all-then-not-is_on-2.result c.args.set ↔ HasJoinGroup q c.args.set =
    subst (λ x. LeadsTo q x c.args.set ↔ HasJoinGroup q c.args.set) (sym c.all-then-not-is_on-2.ensures)
    (group_alone q (c.members_are_candidates.ensures q) c.args.set c.requires (c.is_on.ensures.0 c.if-not-is_on.false)
    (λ on. false≢true (sym c.if-not-is_on-2.true ∙ c.is_on-2.ensures.1 on))) in
    (λ yes. groups.0 (c.leads_to.ensures.0 yes), λ member. c.leads_to.ensures.1 (groups.1 member))

-- with both they are all
pub returns : goal.returns
returns c = (
  λ yes.
      c.splits_are_complete.ensures.groups c.args.query.now c.args.set
      (record {
        commute = c.is_on-2.ensures.0 c.if-not-is_on-2.false;
        associate = c.is_on.ensures.0 c.if-not-is_on.false;
      }) c.requires,
  λ member. refl,
)
