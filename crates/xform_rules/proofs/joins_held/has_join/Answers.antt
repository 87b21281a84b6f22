use Rattle.std.proofs.Common.{refl, sym, ◌∙◌, ◌↔◌}
use Rattle.std.proofs.lemmas.Bool.{false≢true}
use Rattle.xform_rules.specs.OneOrder.{SplitsAfter}
use Rattle.xform_rules.specs.Splits.{HasJoin}
use Rattle.xform_rules.proofs.HeldJoins.{join_has_group, join_without, join_alone}
use Rattle.xform_rules.proofs.OneOrderHeld.{IsCutJoin}
use Rattle.xform_rules.proofs.joins_held.has_join.Goals as goal

-- a join stands in a group of the closure
pub returns-then-not-has_join_group : goal.returns-then-not-has_join_group
returns-then-not-has_join_group c = (
  λ never. absurd (false≢true never),
  λ member.
      let group = join_has_group c.args.query.now (c.members_are_candidates.ensures c.args.query.now) c.args.set
      c.requires.known c.args.a c.args.b member in
      absurd (false≢true (sym c.if-not-has_join_group.true ∙ c.has_join_group.ensures.1 group)),
)

-- without JoinAssociate the last cut makes it
pub returns-then-not-is_on : goal.returns-then-not-is_on
returns-then-not-is_on c =
    let q = c.args.query.now in
    let joins : IsCutJoin q c.args.set c.args.a c.args.b ↔ HasJoin q c.args.set c.args.a c.args.b =
    join_without q (c.members_are_candidates.ensures q) c.args.set c.requires.known
    (λ on. false≢true (sym c.if-not-is_on.true ∙ c.is_on.ensures.1 on))
    c.args.a c.args.b c.requires.falls (c.has_join_group.ensures.0 c.if-not-has_join_group.false) in
    (λ yes. joins.0 (c.is_cut_join.ensures.0 yes), λ member. c.is_cut_join.ensures.1 (joins.1 member))

-- with JoinAssociate alone the left side comes first
pub returns-then-not-is_on-2 : goal.returns-then-not-is_on-2
returns-then-not-is_on-2 c =
    let q = c.args.query.now in
    let joins : SplitsAfter q c.args.set c.args.a ↔ HasJoin q c.args.set c.args.a c.args.b =
    join_alone q (c.members_are_candidates.ensures q) c.args.set c.requires.known
    (c.is_on.ensures.0 c.if-not-is_on.false)
    (λ on. false≢true (sym c.if-not-is_on-2.true ∙ c.is_on-2.ensures.1 on))
    c.args.a c.args.b c.requires.falls (c.has_join_group.ensures.0 c.if-not-has_join_group.false) in
    (λ yes. joins.0 (c.splits_after.ensures.0 yes), λ member. c.splits_after.ensures.1 (joins.1 member))

-- with both every way to fall into two is one
pub returns : goal.returns
returns c = (
  λ yes.
      (c.splits_are_complete.ensures.splits c.args.query.now c.args.set c.args.a c.args.b
      (record {
        commute = c.is_on-2.ensures.0 c.if-not-is_on-2.false;
        associate = c.is_on.ensures.0 c.if-not-is_on.false;
      }) c.requires.known).1 c.requires.falls,
  λ member. refl,
)
