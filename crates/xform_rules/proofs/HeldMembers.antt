-- What the closure holds of sets of tables are groups and joins of the closure, and nothing else.
use Rattle.std.proofs.Common.{◌≡◌, ℕ, ◌-◌, ◌^◌, refl, ap, sym, subst, ◌∙◌, arith, inl, inr, IsTrue, ◌↔◌}
use Rattle.std.specs.Prelude.{bit_or}
use Rattle.std.proofs.lemmas.Bool.{cond_both, and_parts}
use Rattle.query_core.specs.Sets.{bit, is_several, only_of}
use Rattle.query_core.specs.Connected.{AreLinked}
use Rattle.query_core.specs.Keys.{IsGroup, top_of, tables_of, input_of}
use Rattle.query_core.specs.Expressions.{IsCandidate, origin_of}
use Rattle.query_core.specs.declared.query.Query.{Query}
use Rattle.query_core.specs.declared.words.KeyParts.TheVariants as groups
use Rattle.query_core.specs.declared.expressions.ExprParts.{ExprParts}
use Rattle.query_core.proofs.Splitting.{tables_top}
use Rattle.xform_rules.specs.declared.rules.Rule.TheVariants as rules
use Rattle.xform_rules.specs.Rules.{IsOn}
use Rattle.query_core.specs.declared.expressions.Logical.TheVariants as logical
use Rattle.xform_rules.specs.Forms.{logical_in}
use Rattle.xform_rules.specs.Closure.{IsMember, root_origin, child_origin, result, bound_result}
use Rattle.xform_rules.specs.Held.{Place, group, sides, IsHeld, all, left, right, expanded, turned, moved}
use Rattle.xform_rules.specs.Splits.{join_of, HasJoinGroup, HasJoin}
use Rattle.xform_rules.proofs.Validity.{held_valid}
use Rattle.xform_rules.proofs.ClosureSets.{one_or_join, member_says}

-- a rule whose number is 1 can't be off
pub expansion_on : (q : Query) → IsOn q rules.ExpandNAry
unfolding bit
expansion_on q = omega (arith, q.options_valid.expansion_on)

-- the group of several tables is a join group
pub top_several : (q : Query) (set : ℕ) → IsTrue (is_several set) → top_of q set ≡ groups.Join set
top_several q set several = one_or_join q set (only_of set) (and_parts _ _ several).1

module _ (q : Query) where
  -- the group of all rows is one of the closure's
  input_member : IsMember q (origin_of q (input_of q))
  input_member =
      cond_both q.grouped groups.Agg (input_of q) (λ g. IsMember q (origin_of q g)
      → IsMember q (origin_of q (input_of q)))
      (λ yes root. child_origin (origin_of q groups.Agg) (input_of q) root refl) (λ no root. root) root_origin

  -- in the closure: the group of a set, or a join
  abbrev IsMemberAt : Place → Type 0
  IsMemberAt (group set) = IsMember q (origin_of q (top_of q set))
  IsMemberAt (sides set a b) = HasJoin q set a b

  -- what is held is in the closure
  pub held_member : (place : Place) → IsHeld q place → IsMemberAt place
  held_member place all = input_member
  held_member place (left set a b held) = child_origin (join_of q set a b) (top_of q a)
      (held_member (sides set a b) held) (inl refl)
  held_member place (right set a b held) =
      child_origin (join_of q set a b) (top_of q b) (held_member (sides set a b) held) (inr refl)
  held_member place (expanded set t held several last) =
      result (origin_of q (groups.Join set)) (join_of q set (set - 2 ^ t) (2 ^ t)) rules.ExpandNAry 0
      (subst (λ g. IsMember q (origin_of q g)) (top_several q set several) (held_member (group set) held))
      (record { on = expansion_on q; group = refl; gives = (refl, (set, t, (refl, refl), last, refl)) })
  held_member place (turned set a b on held) =
      result (join_of q set a b) (join_of q set b a) rules.JoinCommute 0 (held_member (sides set a b) held)
      (record { on = on; group = refl; gives = (refl, (top_of q a, top_of q b, refl, refl)) })
  held_member place (moved set inner a b c on outer within linked) =
      let known : IsGroup q (groups.Join inner) = (held_valid q (sides inner a b) within).0 in
      let member : IsMember q (logical_in (groups.Join set) (logical.Join (groups.Join inner) (top_of q c))) =
      subst (λ g. IsMember q (logical_in (groups.Join set) (logical.Join g (top_of q c)))) (top_several q inner known.1)
      (held_member (sides set inner c) outer) in
      let link : AreLinked q.links (tables_of (top_of q b)) (tables_of (top_of q c)) =
      subst (λ x. AreLinked q.links x (tables_of (top_of q c))) (sym (tables_top q b))
      (subst (AreLinked q.links b) (sym (tables_top q c)) linked) in
      let union : bit_or b c ≡ bit_or (tables_of (top_of q b)) (tables_of (top_of q c)) =
      ap (λ x. bit_or x c) (sym (tables_top q b))
      ∙ ap (λ x. bit_or (tables_of (top_of q b)) x) (sym (tables_top q c)) in
      bound_result (logical_in (groups.Join set) (logical.Join (groups.Join inner) (top_of q c))) (join_of q inner a b)
      (join_of q set a (bit_or b c)) rules.JoinAssociate 0 member
      (held_member (sides inner a b) within)
      (record {
        on = on;
        group = refl;
        gives = (
          refl,
          refl,
          (
            inner,
            top_of q c,
            top_of q a,
            top_of q b,
            refl,
            refl,
            link,
            ap (λ x. logical.Join (top_of q a) (top_of q x)) union,
          ),
        );
      })

  module _ (candidates : (e : ExprParts) → IsMember q e → IsCandidate q e) where
    -- a group of several tables is in the closure exactly where it is held
    pub group_held : (set : ℕ) → IsGroup q (groups.Join set) → HasJoinGroup q set ↔ IsHeld q (group set)
    group_held set known = (
      λ member. (member_says q candidates (origin_of q (groups.Join set)) member).own set refl,
      λ held. subst (λ g. IsMember q (origin_of q g)) (top_several q set known.1) (held_member (group set) held),
    )

    -- so is a join of two sets
    pub join_held : (set a b : ℕ) → HasJoin q set a b ↔ IsHeld q (sides set a b)
    join_held set a b = (
      λ member. subst (λ x. IsHeld q (sides set x b)) (tables_top q a)
          (subst (λ x. IsHeld q (sides set (tables_of (top_of q a)) x)) (tables_top q b)
          ((member_says q candidates (join_of q set a b) member).both set (top_of q a) (top_of q b) refl refl)),
      λ held. held_member (sides set a b) held,
    )
