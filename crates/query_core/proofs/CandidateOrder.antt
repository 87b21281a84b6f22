-- The order of the candidates of a group.
use Rattle.std.proofs.Common.{◌≡◌, ℕ, ◌+◌, ◌*◌, ◌^◌, ◌<◌, ◌≤◌, refl, ap, sym, subst, ◌∙◌, inl, inr, ◌⊎◌, arith, IsTrue}
use Rattle.std.proofs.lemmas.Bool.{cases_lt, false≢true}
use Rattle.std.proofs.lemmas.Nat.{or_disjoint}
use Rattle.query_core.specs.Keys.{key_number, top_of, tables_of}
use Rattle.query_core.specs.Expressions.{children_of, fields_of, is_logical, left_number, right_number}
use Rattle.query_core.specs.Expressions.{middle_field, word_of, MIDDLES, AreInRange, FallsInto}
use Rattle.query_core.specs.Expressions.{HasLogical, HasShape, IsJoin, IsPacked}
use Rattle.query_core.specs.declared.query.Query.{Query}
use Rattle.query_core.specs.declared.words.KeyParts.{KeyParts}
use Rattle.query_core.specs.declared.words.KeyParts.TheVariants as groups
use Rattle.query_core.specs.declared.expressions.Children.TheVariants.{Zero, One, Two}
use Rattle.query_core.specs.declared.expressions.Logical.{Logical}
use Rattle.query_core.specs.declared.expressions.Logical.TheVariants as logical
use Rattle.query_core.specs.declared.expressions.Operator.{Operator}
use Rattle.query_core.specs.declared.expressions.Operator.TheVariants as operators
use Rattle.query_core.specs.declared.expressions.ExprParts.{ExprParts}
use Rattle.query_core.specs.Candidates.{MiddlesRise, LogicalComeFirst}
use Rattle.query_core.specs.Expressions.{implements, IsJoinNumber}
use Rattle.query_core.specs.declared.expressions.TheConstants.{FIRST_JOIN, AFTER_JOINS}
use Rattle.query_core.specs.declared.expressions.Children.{Children}
use Rattle.query_core.proofs.Implementations.{last_of, comes_upto, comes_after, number_out, number_in, two_shape}
use Rattle.query_core.proofs.CandidateLemmas.{candidate_packed}
use Rattle.query_core.proofs.ExpressionLemmas.{operator_small, left_small, right_small}
use Rattle.query_core.proofs.GroupLemmas.{key_one}
use Rattle.query_core.proofs.Splitting.{tables_top}

-- ---- the fields of a word

-- what a word has between its key and its right child
abbrev middle_of : ExprParts → ℕ
middle_of e = (fields_of e.operator).number * 2 ^ 18 + (fields_of e.operator).index * 2 ^ 13 + left_number
    (children_of e.operator)

-- a word is its key, its middle and its right child, each in its field
record HasFields (e : ExprParts) : Type 0 where
  word_is : word_of e ≡ key_number e.group * 2 ^ 36 + middle_of e * 2 ^ 13 + right_number (children_of e.operator)
  middle_few : middle_of e < MIDDLES
  left_below : left_number (children_of e.operator) < 2 ^ 13
  right_below : right_number (children_of e.operator) < 2 ^ 13

has_fields : (e : ExprParts) → IsPacked e → HasFields e
has_fields e packed =
    let number = operator_small e.operator in
    let index = packed.index in
    let left = left_small (children_of e.operator) packed.children in
    let right = right_small (children_of e.operator) packed.children in
    record { word_is = omega arith; middle_few = omega arith; left_below = left; right_below = right }

-- the middle stands in its field
middle_read : (e : ExprParts) → HasFields e → middle_field (word_of e) ≡ middle_of e
middle_read e has = let is = has.word_is in let middle = has.middle_few in let right = has.right_below in omega arith

-- ---- logical candidates come first

-- the greatest number of a logical operator of the group
last_logical : KeyParts → ℕ
last_logical (groups.Get t) = 1
last_logical (groups.Filter t) = 4
last_logical (groups.Join set) = 8
last_logical groups.Partial = 15
last_logical groups.Agg = 12

-- which is that of each logical operator that the group can have
last_same : (q : Query) (group : KeyParts) (o : Logical) → HasLogical q group o → last_logical group ≡ last_of o
unfolding last_logical last_of
last_same q group logical.Get (t, is) = ap last_logical is
last_same q group (logical.Select child) (t, is, under) = ap last_logical is
last_same q group logical.NJoin (set, is) = ap last_logical is
last_same q group (logical.Join left right) (set, a, b, is, falls, left_is, right_is) = ap last_logical is
last_same q group (logical.Agg child) (is, under) = ap last_logical is
last_same q group (logical.Partial child) (is, under) = ap last_logical is

-- logical operators have numbers up to it, and physical ones come after those that they implement
number_less : (q : Query) (group : KeyParts) (o p : Operator) → HasShape q group o → HasShape q group p
    → IsTrue (is_logical o) → (IsTrue (is_logical p) → ⊥)
    → (fields_of o).number < (fields_of p).number
number_less q group (operators.Logical o) (operators.Physical p) shape other wanted made =
    omega (
      arith,
      comes_upto o,
      last_same q group o shape,
      last_same q group (implements group p) other.0,
      comes_after group p,
    )
number_less q group (operators.Logical o) (operators.Logical p) shape other wanted made = absurd (made refl)
number_less q group (operators.Physical o) p shape other wanted made = absurd (false≢true wanted)

pub logical_first : (q : Query) → LogicalComeFirst q
logical_first q e other known other_known same wanted made =
    let shape : HasShape q e.group other.operator =
    subst (λ (g : KeyParts). HasShape q g other.operator) (sym same) other_known.shape in
    let less = number_less q e.group e.operator other.operator known.shape shape wanted made in
    let e_has = has_fields e (candidate_packed q e known) in
    let other_has = has_fields other (candidate_packed q other other_known) in
    let e_is = e_has.word_is in
    let other_is = other_has.word_is in
    let e_few = e_has.right_below in
    let keys_same : key_number e.group ≡ key_number other.group = ap key_number same in
    let index_few = (candidate_packed q e known).index in
    let left_few = e_has.left_below in
    omega arith

-- ---- the left child tells the right one

-- the operator has no right child, or is a join of its children
abbrev HasSides : Query → KeyParts → Operator → Type 0
HasSides q group o =
    ((right_number (children_of o) ≡ 0) × (((fields_of o).number < FIRST_JOIN) ⊎ (AFTER_JOINS ≤ (fields_of o).number)))
    ⊎ ((left right : KeyParts) × IsJoin q group left right × (children_of o ≡ Two left right)
    × IsJoinNumber (fields_of o).number)

sides_of : (q : Query) (group : KeyParts) (o : Operator) (c : Children) → children_of o ≡ c → HasShape q group o
    → HasSides q group o
sides_of q group o Zero is shape =
    let none : right_number (children_of o) ≡ 0 = ap right_number is in
    inl (none, number_out o none)
sides_of q group o (One child) is shape =
    let none : right_number (children_of o) ≡ 0 = ap right_number is in
    inl (none, number_out o none)
sides_of q group o (Two left right) is shape =
    inr (left, right, two_shape q group o left right is shape, is, number_in o left right is)

has_sides : (q : Query) (group : KeyParts) (o : Operator) → HasShape q group o → HasSides q group o
has_sides q group o shape = sides_of q group o (children_of o) refl shape

-- of a set and the one side, the other side
side_is : (q : Query) (set a b : ℕ) → FallsInto q set a b → a + b ≡ set
side_is q set a b falls = sym (or_disjoint a b falls.disjoint) ∙ falls.whole

module _ (q : Query) where
  right_one : (group left right other : KeyParts) → IsJoin q group left right → IsJoin q group left other
      → right ≡ other
  right_one group left right other (set, a, b, is, falls, left_is, right_is)
      (more, c, d, more_is, falls_more, left_more, other_is) =
      let sets : groups.Join set ≡ groups.Join more = sym is ∙ more_is in
      let set_same : set ≡ more = cc in
      let a_same : a ≡ c = sym (tables_top q a) ∙ ap tables_of (sym left_is ∙ left_more) ∙ tables_top q c in
      let b_same : b ≡ d = omega (arith, side_is q set a b falls, side_is q more c d falls_more, set_same, a_same) in
      right_is ∙ ap (top_of q) b_same ∙ sym other_is

  -- operators of one group with the same number and left child have the same right child
  rights_one : (group : KeyParts) (o p : Operator)
      → HasSides q group o → HasSides q group p → AreInRange (children_of o) → AreInRange (children_of p)
      → (fields_of o).number ≡ (fields_of p).number
      → left_number (children_of o) ≡ left_number (children_of p)
      → right_number (children_of o) ≡ right_number (children_of p)
  rights_one group o p (inl (none, out)) (inl (other_none, other_out)) known other numbers lefts = none ∙ sym other_none
  rights_one group o p (inl (none, out)) (inr (left, right, join, two, (from, upto))) known other numbers lefts =
      absurd (omega (arith, out, from, upto, numbers))
  rights_one group o p (inr (left, right, join, two, (from, upto))) (inl (none, out)) known other numbers lefts =
      absurd (omega (arith, out, from, upto, numbers))
  rights_one group o p (inr (left, right, join, two, (from, upto)))
      (inr (other_left, other_right, other_join, other_two, (other_from, other_upto))) known other numbers lefts =
      let in_range : AreInRange (Two left right) = subst AreInRange two known in
      let other_in_range : AreInRange (Two other_left other_right) = subst AreInRange other_two other in
      let left_keys : key_number left ≡ key_number other_left =
      omega (arith, ap left_number two, ap left_number other_two, lefts) in
      let left_same : left ≡ other_left = key_one left other_left in_range.0 other_in_range.0 left_keys in
      let turned : IsJoin q group left other_right =
      subst (λ (g : KeyParts). IsJoin q group g other_right) (sym left_same) other_join in
      let right_same : right ≡ other_right = right_one group left right other_right join turned in
      ap right_number two ∙ ap (λ (g : KeyParts). key_number g + 1) right_same ∙ sym (ap right_number other_two)

-- of two words of a group with the same middle the right children are the same, so neither is less
middle_apart : (e other : ExprParts) → (fields_of e.operator).index < 32 → (fields_of other.operator).index < 32
    → HasFields e → HasFields other
    → key_number e.group ≡ key_number other.group
    → ((fields_of e.operator).number ≡ (fields_of other.operator).number
    → left_number (children_of e.operator) ≡ left_number (children_of other.operator)
    → right_number (children_of e.operator) ≡ right_number (children_of other.operator))
    → word_of e < word_of other → middle_of other ≤ middle_of e → ⊥
middle_apart e other index other_index has other_has keys_same rights less above =
    let is = has.word_is in
    let other_is = other_has.word_is in
    let left = has.left_below in
    let other_left = other_has.left_below in
    let right = has.right_below in
    let other_right = other_has.right_below in
    let same : middle_of e ≡ middle_of other =
    omega (arith, is, other_is, keys_same, less, above, right, other_right) in
    let numbers : (fields_of e.operator).number ≡ (fields_of other.operator).number =
    omega (arith, same, index, other_index, left, other_left) in
    let lefts : left_number (children_of e.operator) ≡ left_number (children_of other.operator) =
    omega (arith, same, index, other_index, left, other_left) in
    let right_same = rights numbers lefts in
    omega (arith, is, other_is, keys_same, same, right_same, less)

-- what is in the middle of words ascends with them
pub middles_rise : (q : Query) → MiddlesRise q
middles_rise q e other known other_known same less =
    let shape : HasShape q e.group other.operator =
    subst (λ (g : KeyParts). HasShape q g other.operator) (sym same) other_known.shape in
    let e_packed = candidate_packed q e known in
    let other_packed = candidate_packed q other other_known in
    let e_has = has_fields e e_packed in
    let other_has = has_fields other other_packed in
    let keys_same : key_number e.group ≡ key_number other.group = ap key_number same in
    let rights = rights_one q e.group e.operator other.operator (has_sides q e.group e.operator known.shape)
    (has_sides q e.group other.operator shape)
    e_packed.children other_packed.children in
    let rise : middle_of e < middle_of other = elim (cases_lt (middle_of e) (middle_of other)) [
      | inl below ↦ below
      | inr above ↦ absurd (middle_apart e other e_packed.index other_packed.index e_has other_has keys_same rights less
          above)
    ] in
    omega (arith, middle_read e e_has, middle_read other other_has, rise)
