-- Where a rule that turns joins is off, what the closure holds of sets of tables goes in one order.
use Rattle.std.proofs.Common.{◌≡◌, ℕ, ◌-◌, ◌^◌, ◌<◌, refl, ap, sym, subst, ◌∙◌, arith, IsTrue, ◌⊎◌, inl, inr, ◌↔◌}
use Rattle.std.proofs.Common.{length}
use Rattle.std.specs.Prelude.{bit_or}
use Rattle.query_core.specs.Sets.{Has, is_several}
use Rattle.query_core.specs.Connected.{AreLinked}
use Rattle.query_core.specs.Expressions.{FallsInto}
use Rattle.query_core.specs.declared.query.Query.{Query}
use Rattle.query_core.proofs.Unions.{several_more, sides_turned}
use Rattle.query_core.proofs.Bits.{bit-one_other, has_below}
use Rattle.std.proofs.lemmas.Bool.{cases_eq}
use Rattle.xform_rules.proofs.LastCuts.{within_le}
use Rattle.xform_rules.specs.declared.rules.Rule.TheVariants as rules
use Rattle.xform_rules.specs.Rules.{IsOn}
use Rattle.xform_rules.specs.Held.{Place, group, sides, all_of, IsHeld, all, left, right, expanded, turned, moved}
use Rattle.xform_rules.specs.OneOrder.{IsCutTo, CutsDownTo, begun, less, SplitsAfter, cut, associated, LeadsTo, there}
use Rattle.xform_rules.specs.OneOrder.{by_left, by_right}
use Rattle.xform_rules.proofs.EverySplit.{sides_add}
use Rattle.xform_rules.proofs.Validity.{set_small, held_valid}
use Rattle.xform_rules.proofs.Beginnings.{begins_then}
use Rattle.xform_rules.proofs.Leading.{leads_then}

-- where a set falls into two, the one is what the other leaves
pub left_rest : (q : Query) (set a b : ℕ) → FallsInto q set a b → a ≡ set - b
left_rest q set a b falls = omega (arith, sides_add q set a b falls)

pub right_rest : (q : Query) (set a b : ℕ) → FallsInto q set a b → b ≡ set - a
right_rest q set a b falls = omega (arith, sides_add q set a b falls)

module _ (q : Query) where
  -- ---- JoinAssociate without JoinCommute

  -- what is held then
  abbrev pub IsInOrder : Place → Type 0
  IsInOrder (group set) = LeadsTo q (all_of q) set
  IsInOrder (sides set a b) = LeadsTo q (all_of q) set × SplitsAfter q set a × (b ≡ set - a)

  pub held_in_order : (IsOn q rules.JoinCommute → ⊥) → (place : Place) → IsHeld q place → IsInOrder place
  held_in_order off place all = there (all_of q)
  held_in_order off place (left set a b held) =
      let (leads, splits, same) = held_in_order off (sides set a b) held in
      leads_then q (all_of q) set a leads (by_left set a a splits (there a))
  held_in_order off place (right set a b held) =
      let (leads, splits, same) = held_in_order off (sides set a b) held in
      leads_then q (all_of q) set b leads (by_right set a b splits (subst (λ x. LeadsTo q x b) same (there b)))
  held_in_order off place (expanded set t held several last) =
      let valid = held_valid q (sides set (set - 2 ^ t) (2 ^ t)) (expanded set t held several last) in (
        held_in_order off (group set) held,
        cut set (set - 2 ^ t) (record { several = several; last = (t, last, refl) }),
        right_rest q set (set - 2 ^ t) (2 ^ t) valid.1,
      )
  held_in_order off place (turned set a b on held) = absurd (off on)
  held_in_order off place (moved set inner a b c on outer within linked) =
      let valid = held_valid q (sides set a (bit_or b c)) (moved set inner a b c on outer within linked) in
      let (leads, splits, same) = held_in_order off (sides set inner c) outer in
      let (leads_inner, splits_inner, same_inner) = held_in_order off (sides inner a b) within in
      let link : AreLinked q.links (inner - a) (set - inner) =
      subst (λ x. AreLinked q.links x (set - inner)) same_inner (subst (AreLinked q.links b) same linked) in
      (leads, associated set inner a splits splits_inner link, right_rest q set a (bit_or b c) valid.1)

  -- a join over a last cut is held
  pub cut_held : (set part : ℕ) → IsCutTo q set part → IsHeld q (group set) → IsHeld q (sides set part (set - part))
  cut_held set part cuts held =
      let (t, last, same) = cuts.last in
      let join : IsHeld q (sides set (set - 2 ^ t) (2 ^ t)) = expanded set t held cuts.several last in
      let rest : 2 ^ t ≡ set - part = right_rest q set (set - 2 ^ t) (2 ^ t)
      (held_valid q (sides set (set - 2 ^ t) (2 ^ t)) join).1 ∙ ap (λ x. set - x) (sym same) in
      subst (λ x. IsHeld q (sides set x (set - part))) (sym same)
      (subst (λ x. IsHeld q (sides set (set - 2 ^ t) x)) rest join)

  module _ (on : IsOn q rules.JoinAssociate) where
    pub splits_held : (set part : ℕ) → SplitsAfter q set part → IsHeld q (group set)
        → IsHeld q (sides set part (set - part))
    splits_held set part (cut s p cuts) held = cut_held set part cuts held
    splits_held set part (associated s inner p outer within linked) held =
        let first : IsHeld q (sides set inner (set - inner)) = splits_held set inner outer held in
        let second : IsHeld q (sides inner part (inner - part)) =
        splits_held inner part within (left set inner (set - inner) first) in
        let join = moved set inner part (inner - part) (set - inner) on first second linked in
        subst (λ x. IsHeld q (sides set part x))
        (right_rest q set part (bit_or (inner - part) (set - inner)) (held_valid q _ join).1) join

    pub leads_held : (set part : ℕ) → LeadsTo q set part → IsHeld q (group set) → IsHeld q (group part)
    leads_held set part (there s) held = held
    leads_held set part (by_left s side p splits leads) held =
        leads_held side part leads (left set side (set - side) (splits_held set side splits held))
    leads_held set part (by_right s side p splits leads) held =
        leads_held (set - side) part leads (right set side (set - side) (splits_held set side splits held))

    -- exactly the groups that the group of all tables leads to
    pub group_in_order : (IsOn q rules.JoinCommute → ⊥) → (set : ℕ) → IsHeld q (group set) ↔ LeadsTo q (all_of q) set
    group_in_order off set = (λ held. held_in_order off (group set) held, λ leads. leads_held (all_of q) set leads all)

    -- and of these the joins in that order
    pub join_in_order : (IsOn q rules.JoinCommute → ⊥) → (set a b : ℕ) → FallsInto q set a b
        → IsHeld q (sides set a b) ↔ (IsHeld q (group set) × SplitsAfter q set a)
    join_in_order off set a b falls = (
      λ held.
          let (leads, splits, same) = held_in_order off (sides set a b) held in
          (leads_held (all_of q) set leads all, splits),
      λ (held, splits). subst (λ x. IsHeld q (sides set a x)) (sym (right_rest q set a b falls))
          (splits_held set a splits held),
    )

  -- ---- without JoinAssociate

  -- the joins that the last cut makes, and those the other way round where JoinCommute is on
  abbrev pub IsCutJoin : ℕ → ℕ → ℕ → Type 0
  IsCutJoin set a b = IsCutTo q set a ⊎ (IsOn q rules.JoinCommute × IsCutTo q set b)

  -- what is held then
  abbrev pub IsByCuts : Place → Type 0
  IsByCuts (group set) = IsTrue (is_several set) → CutsDownTo q (all_of q) set
  IsByCuts (sides set a b) = CutsDownTo q (all_of q) set × IsCutJoin set a b

  -- a side that isn't what the last cut leaves has one table
  other_side : (set a b : ℕ) → FallsInto q set a b → set < 2 ^ length q.tables → IsCutTo q set a → IsTrue (is_several b)
      → ⊥
  other_side set a b falls small cuts several =
      let (t, last, same) = cuts.last in
      let power : (v : ℕ) → Has (2 ^ t) v → Has set v = λ v in_one. elim (cases_eq v t) [
        | inl equal ↦ subst (Has set) (sym equal) last.cut.0
        | inr other ↦ absurd (omega (arith, bit-one_other t v other, in_one))
      ] in
      let one : b ≡ 2 ^ t = omega (arith, right_rest q set a b falls, same, within_le (2 ^ t) set power) in
      several_more b t (has_below set t (set_small q set small) last.cut.0) several one

  pub held_by_cuts : (IsOn q rules.JoinAssociate → ⊥) → (place : Place) → IsHeld q place → IsByCuts place
  held_by_cuts off place all = λ several. begun (all_of q)
  held_by_cuts off place (left set a b held) = λ several.
      let (begins, cuts) = held_by_cuts off (sides set a b) held in
      let valid = held_valid q (sides set a b) held in
      elim cuts [
        | inl first ↦ begins_then q (all_of q) set a begins (less set a a first (begun a))
        | inr (on, second) ↦ absurd (other_side set b a (sides_turned q set a b valid.1) valid.0.0 second several)
      ]
  held_by_cuts off place (right set a b held) = λ several.
      let (begins, cuts) = held_by_cuts off (sides set a b) held in
      let valid = held_valid q (sides set a b) held in
      elim cuts [
        | inr (on, second) ↦ begins_then q (all_of q) set b begins (less set b b second (begun b))
        | inl first ↦ absurd (other_side set a b valid.1 valid.0.0 first several)
      ]
  held_by_cuts off place (expanded set t held several last) =
      (held_by_cuts off (group set) held several, inl (record { several = several; last = (t, last, refl) }))
  held_by_cuts off place (turned set a b on held) =
      let (begins, cuts) = held_by_cuts off (sides set a b) held in
      (begins, elim cuts [ inl first ↦ inr (on, first) | inr (also, second) ↦ inl second ])
  held_by_cuts off place (moved set inner a b c on outer within linked) = absurd (off on)

  -- a beginning of a set that is held
  begins_held : (set part : ℕ) → CutsDownTo q set part → IsHeld q (group set) → IsHeld q (group part)
  begins_held set part (begun s) held = held
  begins_held set part (less s next p cuts rest) held =
      begins_held next part rest (left set next (set - next) (cut_held set next cuts held))

  -- exactly the groups of several tables that all tables begin with
  pub group_by_cuts : (IsOn q rules.JoinAssociate → ⊥) → (set : ℕ) → IsTrue (is_several set) → IsHeld q (group set)
      ↔ CutsDownTo q (all_of q) set
  group_by_cuts off set several = (
    λ held. held_by_cuts off (group set) held several,
    λ begins.
        begins_held (all_of q) set begins all,
  )

  -- and of these the joins that the last cut makes
  pub join_by_cuts : (IsOn q rules.JoinAssociate → ⊥) → (set a b : ℕ) → FallsInto q set a b
      → IsHeld q (sides set a b) ↔ (IsHeld q (group set) × IsCutJoin set a b)
  join_by_cuts off set a b falls = (
    λ held.
        let (begins, cuts) = held_by_cuts off (sides set a b) held in
        (begins_held (all_of q) set begins all, cuts),
    λ (held, cuts). elim cuts [
      | inl first ↦ subst (λ x. IsHeld q (sides set a x)) (sym (right_rest q set a b falls)) (cut_held set a first held)
      | inr (on, second) ↦
          let join : IsHeld q (sides set b a) = subst (λ x. IsHeld q (sides set b x)) (sym (left_rest q set a b falls))
          (cut_held set b second held) in
          turned set b a on join
    ],
  )
