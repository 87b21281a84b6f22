-- Which groups of several tables the closure has, and which joins, where a rule that turns joins is off.
use Rattle.std.proofs.Common.{refl, ◌↔◌}
use Rattle.query_core.specs.Keys.{IsGroup}
use Rattle.query_core.specs.Expressions.{IsCandidate, FallsInto}
use Rattle.query_core.specs.declared.query.Query.{Query}
use Rattle.query_core.specs.declared.words.KeyParts.TheVariants as groups
use Rattle.query_core.specs.declared.expressions.ExprParts.{ExprParts}
use Rattle.xform_rules.specs.declared.rules.Rule.TheVariants as rules
use Rattle.xform_rules.specs.Rules.{IsOn}
use Rattle.xform_rules.specs.Closure.{IsMember}
use Rattle.xform_rules.specs.Held.{Place, group, sides, all_of, IsHeld, all, left, right, expanded, turned, moved}
use Rattle.xform_rules.specs.OneOrder.{CutsDownTo, SplitsAfter, LeadsTo}
use Rattle.xform_rules.specs.Splits.{HasJoinGroup, HasJoin}
use Rattle.xform_rules.proofs.HeldMembers.{group_held, join_held}
use Rattle.xform_rules.proofs.OneOrderHeld.{IsCutJoin, group_in_order, join_in_order, group_by_cuts, join_by_cuts}
use Rattle.std.proofs.Common.{ℕ, IsTrue, true}

-- a join stands in a group that is held
abbrev HoldsGroup : Query → Place → Type 0
HoldsGroup q (group set) = IsTrue true
HoldsGroup q (sides set a b) = IsHeld q (group set)

held_group : (q : Query) (place : Place) → IsHeld q place → HoldsGroup q place
held_group q place all = refl
held_group q place (left set a b held) = refl
held_group q place (right set a b held) = refl
held_group q place (expanded set t held several last) = held
held_group q place (turned set a b on held) = held_group q (sides set a b) held
held_group q place (moved set inner a b c on outer within linked) = held_group q (sides set inner c) outer

module _ (q : Query) (candidates : (e : ExprParts) → IsMember q e → IsCandidate q e) (set : ℕ)
    (known : IsGroup q (groups.Join set)) where
  -- without JoinAssociate: what all tables begin with
  pub group_without : (IsOn q rules.JoinAssociate → ⊥) → CutsDownTo q (all_of q) set ↔ HasJoinGroup q set
  group_without off =
      let by_cuts = group_by_cuts q off set known.1 in
      let held = group_held q candidates set known in
      (λ begins. held.1 (by_cuts.1 begins), λ member. by_cuts.0 (held.0 member))

  pub join_without : (IsOn q rules.JoinAssociate → ⊥) → (a b : ℕ) → FallsInto q set a b → HasJoinGroup q set
      → IsCutJoin q set a b ↔ HasJoin q set a b
  join_without off a b falls has =
      let by_cuts = join_by_cuts q off set a b falls in
      let held = join_held q candidates set a b in (
        λ cuts. held.1 (by_cuts.1 ((group_held q candidates set known).0 has, cuts)),
        λ member.
            (by_cuts.0 (held.0 member)).1,
      )

  -- JoinAssociate alone: what all tables lead to
  pub group_alone : IsOn q rules.JoinAssociate → (IsOn q rules.JoinCommute → ⊥) → LeadsTo q (all_of q) set
      ↔ HasJoinGroup q set
  group_alone on off =
      let in_order = group_in_order q on off set in
      let held = group_held q candidates set known in
      (λ leads. held.1 (in_order.1 leads), λ member. in_order.0 (held.0 member))

  pub join_alone : IsOn q rules.JoinAssociate → (IsOn q rules.JoinCommute → ⊥) → (a b : ℕ) → FallsInto q set a b
      → HasJoinGroup q set
      → SplitsAfter q set a ↔ HasJoin q set a b
  join_alone on off a b falls has =
      let in_order = join_in_order q on off set a b falls in
      let held = join_held q candidates set a b in (
        λ splits. held.1 (in_order.1 ((group_held q candidates set known).0 has, splits)),
        λ member.
            (in_order.0 (held.0 member)).1,
      )

  -- the group of a join
  pub join_has_group : (a b : ℕ) → HasJoin q set a b → HasJoinGroup q set
  join_has_group a b member = (group_held q candidates set known).1
      (held_group q (sides set a b) ((join_held q candidates set a b).0 member))
