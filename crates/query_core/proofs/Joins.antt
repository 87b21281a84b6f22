-- Laws of the joins of a set by their sides.
use Rattle.std.proofs.Common.{◌≡◌, ℕ, ◌+◌, ◌-◌, ◌<◌, ap, sym, subst, ◌∙◌, arith}
use Rattle.query_core.specs.Sets.{bit}
use Rattle.query_core.specs.Keys.{key_number, IsGroupInRange, top_of}
use Rattle.query_core.specs.Expressions.{left_number, FallsInto}
use Rattle.query_core.specs.Finding.{left_of, IsAt, IsJoined, IsOver}
use Rattle.query_core.specs.declared.query.Query.{Query}
use Rattle.query_core.specs.declared.words.KeyParts.TheVariants as groups
use Rattle.query_core.specs.declared.expressions.Children.TheVariants.{Two}
use Rattle.query_core.specs.declared.expressions.ExprParts.{ExprParts}
use Rattle.query_core.proofs.Splitting.{right_bit, right_one, set_one, left_within, right_within, top_in_range}
use Rattle.query_core.proofs.Splitting.{key_top_small}

module _ (q : Query) (set : ℕ) (small : IsGroupInRange (groups.Join set)) where
  -- a set falls into one pair of sides whose left group has this key
  pub sides_one : (a b x y : ℕ) → FallsInto q set a b → FallsInto q set x y
      → key_number (top_of q a) ≡ key_number (top_of q x) → (a ≡ x) × (b ≡ y)
  sides_one a b x y falls other same =
      let left : a ≡ x = set_one q a x (omega (arith, left_within q set a b falls))
      (omega (arith, left_within q set x y other)) same in (
        left,
        right_one q set a b y falls (subst (λ z. (t : ℕ) → bit y t ≡ bit set t - bit z t) (sym left)
            (right_bit q set x y other)),
      )

  -- both groups of a join are in range
  pub sides_in_range : (a b : ℕ) → FallsInto q set a b → IsGroupInRange (top_of q a) × IsGroupInRange (top_of q b)
  sides_in_range a b falls = (
    top_in_range q a (omega (arith, left_within q set a b falls)),
    top_in_range q b (omega (arith, right_within q set a b falls)),
  )

  -- joins over the sides of this left one are all that have its number
  pub over_sides : (a b left : ℕ) (e : ExprParts) → FallsInto q set a b → key_number (top_of q a) + 1 ≡ left
      → IsOver q (groups.Join set) (Two (top_of q a) (top_of q b)) e → IsAt (IsJoined q set) left_of left e
  over_sides a b left e falls number (held, is) = ((held, (a, b, falls, is)), ap left_number is ∙ number)

  pub sides_over : (a b left : ℕ) (e : ExprParts) → FallsInto q set a b → key_number (top_of q a) + 1 ≡ left
      → IsAt (IsJoined q set) left_of left e → IsOver q (groups.Join set) (Two (top_of q a) (top_of q b)) e
  sides_over a b left e falls number ((held, (x, y, other, is)), other_number) =
      let one = sides_one x y a b other falls (omega (arith, number, ap left_number is, other_number)) in (
        held,
        is
            ∙ (ap (λ (z : ℕ). Two (top_of q z) (top_of q y)) one.0
            ∙ ap (λ (z : ℕ). Two (top_of q a) (top_of q z)) one.1),
      )

  -- no number of a left side is as large as 2049
  pub left_few : (e : ExprParts) → IsJoined q set e → left_of e < 2049
  left_few e (held, (a, b, falls, is)) =
      let last : key_number (top_of q a) < 2048 = key_top_small q a (omega (arith, left_within q set a b falls)) in
      omega (arith, last, ap left_number is)
