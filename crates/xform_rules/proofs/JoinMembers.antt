-- The joins that a group can hold, by the sets that its group and its sides join.
use Rattle.std.proofs.Common.{◌≡◌, ℕ, ap, sym, subst, ◌∙◌}
use Rattle.query_core.specs.Keys.{top_of, tables_of}
use Rattle.query_core.specs.Expressions.{HasLogical, FallsInto}
use Rattle.query_core.specs.declared.query.Query.{Query}
use Rattle.query_core.specs.declared.words.KeyParts.{KeyParts}
use Rattle.query_core.specs.declared.words.KeyParts.TheVariants as groups
use Rattle.query_core.specs.declared.expressions.Logical.TheVariants as logical
use Rattle.query_core.proofs.Splitting.{tables_top}
use Rattle.xform_rules.specs.Forms.{logical_in}
use Rattle.xform_rules.specs.Splits.{join_of}

-- the group is that of its tables
group_is : (g : KeyParts) (set s : ℕ) → g ≡ groups.Join s → set ≡ tables_of g → g ≡ groups.Join set
group_is g set s own is = own ∙ ap groups.Join (sym (is ∙ ap tables_of own))

module _ (q : Query) (g : KeyParts) (set : ℕ) (is : set ≡ tables_of g) (l r : KeyParts) (a b : ℕ)
    (is_left : a ≡ tables_of l) (is_right : b ≡ tables_of r)
    (shape : HasLogical q g (logical.Join l r)) where
  -- the sides are sets that the set falls into
  pub join_falls : FallsInto q set a b
  join_falls =
      let (s, x, y, own, falls, left, right) = shape in
      let same : set ≡ s = is ∙ ap tables_of own in
      let same_left : a ≡ x = is_left ∙ ap tables_of left ∙ tables_top q x in
      let same_right : b ≡ y = is_right ∙ ap tables_of right ∙ tables_top q y in
      subst (λ z. FallsInto q z a b) (sym same)
      (subst (λ z. FallsInto q s z b) (sym same_left) (subst (FallsInto q s x) (sym same_right) falls))

  -- and the expression is their join
  pub join_is : logical_in g (logical.Join l r) ≡ join_of q set a b
  join_is =
      let (s, x, y, own, falls, left, right) = shape in
      let same_left : l ≡ top_of q a = left ∙ ap (top_of q) (sym (is_left ∙ ap tables_of left ∙ tables_top q x)) in
      let same_right : r ≡ top_of q b = right ∙ ap (top_of q) (sym (is_right ∙ ap tables_of right ∙ tables_top q y)) in
      ap (λ z. logical_in z (logical.Join l r)) (group_is g set s own is)
      ∙ ap (λ z. logical_in (groups.Join set) (logical.Join z r)) same_left
      ∙ ap (λ z. logical_in (groups.Join set) (logical.Join (top_of q a) z)) same_right
