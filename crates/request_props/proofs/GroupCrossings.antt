-- Which predicates cross from one group to another, by the sets of the equalities of which each has a column.
use Rattle.std.proofs.Common.{◌≡◌, ◌⊎◌, ◌↔◌, inl, inr, ℕ, ◌<◌, Option, None, Some, length, ap, refl, sym, subst, ◌∙◌}
use Rattle.std.proofs.Common.{IsTrue, Bool, true, false, ◌&&◌, if◌then◌else◌}
use Rattle.std.specs.Prelude.{slice_get}
use Rattle.std.proofs.lemmas.Bool.{and_parts, and_from}
use Rattle.std.proofs.lemmas.Option.{slice_get_within}
use Rattle.query_core.specs.Keys.{has_item}
use Rattle.query_core.specs.declared.query.Query.{Query}
use Rattle.query_core.specs.declared.words.KeyParts.{KeyParts}
use Rattle.query_core.specs.Crossing.{crossing_of, crossing_at, sides_of, sides_with, equal_item}
use Rattle.query_core.specs.declared.predicate.Pred.{Pred}
use Rattle.request_props.specs.Ends.{IsEqualityAt, AreEndsOf, HasAcross, HasAcrossBy, HasColumn, CrossesBy}
use Rattle.request_props.specs.NumberSets.{IsInSet}
use Rattle.request_props.specs.declared.tables.ends.EqualityEnds.{EqualityEnds}

module _ (q : Query) (n a b : ℕ) (is : IsEqualityAt q n a b) where
  below : n < length q.preds
  below = slice_get_within q.preds n is.pred is.there

  -- its items are those of the predicate
  same_items : (c d : ℕ) → IsEqualityAt q n c d → (c ≡ a) × (d ≡ b)
  same_items c d other =
      let same : other.pred ≡ is.pred = cc in
      let item : equal_item is.pred.op is.pred.right ≡ Some d = rw (← same) other.second in
      let second : d ≡ b = cc in
      (sym other.first ∙ (ap (λ (p : Pred). p.left) same ∙ is.first), second)

  module _ (IsOne : ℕ → Type 0) (ends : EqualityEnds) (are : AreEndsOf q IsOne ends) where
    -- sets of some columns have it exactly where its item is one of them
    pub first_in : IsInSet ends.first n ↔ IsOne a
    first_in = (
      λ has. let (within, (c, d, other, one)) = (are.first n).0 has in subst IsOne (same_items c d other).0 one,
      λ one. (are.first n).1 (below, (a, b, is, one)),
    )

    pub second_in : IsInSet ends.second n ↔ IsOne b
    second_in = (
      λ has. let (within, (c, d, other, one)) = (are.second n).0 has in subst IsOne (same_items c d other).1 one,
      λ one. (are.second n).1 (below, (a, b, is, one)),
    )

-- two facts hold exactly where the tests of both pass
both_pass : {S T : Type 0} (x y : Bool) → S ↔ IsTrue x → T ↔ IsTrue y → (S × T) ↔ IsTrue (x && y)
both_pass x y of_x of_y = (
  λ both. and_from _ _ (of_x.0 both.0) (of_y.0 both.1),
  λ pass. let (one, other) = and_parts _ _ pass in (of_x.1 one, of_y.1 other),
)

-- which of two pairs is taken, by two tests
chosen_some : (x y : Bool) (s t : ℕ × ℕ) → ((if x then Some s else if y then Some t else None) ≡ None → ⊥)
    ↔ (IsTrue x ⊎ IsTrue y)
chosen_some true y s t = (λ some. inl refl, λ one none. let wrong : ⊥ = cc in wrong)
chosen_some false true s t = (λ some. inr refl, λ one none. let wrong : ⊥ = cc in wrong)
chosen_some false false s t = (
  λ some. absurd (some refl),
  λ one.
      elim one [ inl never ↦ absurd (let wrong : ⊥ = cc in wrong) | inr never ↦ absurd (let wrong : ⊥ = cc in wrong) ],
)

-- without either test none is taken
chosen_none : (x y : Bool) (s t : ℕ × ℕ) → (IsTrue x → ⊥) → (IsTrue y → ⊥)
    → (if x then Some s else if y then Some t else None) ≡ None
chosen_none true y s t not_first not_second = absurd (not_first refl)
chosen_none false true s t not_first not_second = absurd (not_second refl)
chosen_none false false s t not_first not_second = refl

-- and whether its first number is one of some
chosen_by : (IsOne : ℕ → Type 0) (x y : Bool) (s t : ℕ × ℕ)
    → ((c d : ℕ) × ((if x then Some s else if y then Some t else None) ≡ Some (c, d)) × IsOne c)
    ↔ ((IsTrue x × IsOne s.0) ⊎ ((IsTrue x → ⊥) × IsTrue y × IsOne t.0))
chosen_by IsOne true y s t = (
  λ (c, d, is, one). let same : c ≡ s.0 = cc in inl (refl, subst IsOne same one),
  λ either. elim either [ inl first ↦ (s.0, s.1, refl, first.1) | inr second ↦ absurd (second.0 refl) ],
)
chosen_by IsOne false true s t = (
  λ (c, d, is, one). let same : c ≡ t.0 = cc in inr (λ never. cc, refl, subst IsOne same one),
  λ either. elim either [ inl first ↦ let wrong : ⊥ = cc in absurd wrong | inr second ↦ (t.0, t.1, refl, second.2) ],
)
chosen_by IsOne false false s t = (
  λ (c, d, is, one). let wrong : ⊥ = cc in absurd wrong,
  λ either. elim either [
    | inl first ↦ let wrong : ⊥ = cc in absurd wrong
    | inr second ↦ let wrong : ⊥ = cc in
        absurd wrong
  ],
)

module _ (q : Query) (left right : KeyParts) (n : ℕ) (first second : EqualityEnds)
    (of_left : AreEndsOf q (HasColumn q left) first) (of_right : AreEndsOf q (HasColumn q right) second) where
  -- no equality of two items is in no such sets
  none_across : ((a b : ℕ) → IsEqualityAt q n a b → ⊥) → IsInSet first.first n ⊎ IsInSet first.second n → ⊥
  none_across never (inl has) = let (within, (a, b, is, one)) = (of_left.first n).0 has in never a b is
  none_across never (inr has) = let (within, (a, b, is, one)) = (of_left.second n).0 has in never a b is

  -- an equality's first item lies in the left group and its second in the right one exactly where the sets have it so,
  -- and the other way round
  module _ (a b : ℕ) (is : IsEqualityAt q n a b) where
    to_right : (IsInSet first.first n × IsInSet second.second n) ↔ IsTrue (has_item q left a && has_item q right b)
    to_right = both_pass _ _ (first_in q n a b is (HasColumn q left) first of_left)
        (second_in q n a b is (HasColumn q right) second of_right)

    to_left : (IsInSet first.second n × IsInSet second.first n) ↔ IsTrue (has_item q left b && has_item q right a)
    to_left = both_pass _ _ (second_in q n a b is (HasColumn q left) first of_left)
        (first_in q n a b is (HasColumn q right) second of_right)

    -- without either no pair is taken
    pub no_sides : (IsInSet first.first n × IsInSet second.second n → ⊥)
        → (IsInSet first.second n × IsInSet second.first n → ⊥) → sides_of q left right a b ≡ None
    no_sides no_right no_left =
        chosen_none _ _ (a, b) (b, a) (λ pass. no_right (to_right.1 pass)) (λ pass. no_left (to_left.1 pass))

    some_in : (sides_of q left right a b ≡ None → ⊥) ↔ HasAcross first second n
    some_in =
        let chosen = chosen_some (has_item q left a && has_item q right b) (has_item q left b && has_item q right a)
        (a, b) (b, a) in (
          λ some. elim (chosen.0 some) [
            | inl first_way ↦ inl (to_right.1 first_way)
            | inr first_way ↦
                inr (to_left.1 first_way)
          ],
          λ has. chosen.1 (elim has [ inl both ↦ inl (to_right.0 both) | inr both ↦ inr (to_left.0 both) ]),
        )

    module _ (IsOne : ℕ → Type 0) (among : EqualityEnds) (of_some : AreEndsOf q IsOne among) where
      by_in : ((c d : ℕ) × (sides_of q left right a b ≡ Some (c, d)) × IsOne c) ↔ HasAcrossBy first second among n
      by_in =
          let chosen = chosen_by IsOne (has_item q left a && has_item q right b)
          (has_item q left b && has_item q right a) (a, b) (b, a) in
          let one_a = first_in q n a b is IsOne among of_some in
          let one_b = second_in q n a b is IsOne among of_some in (
            λ some. elim (chosen.0 some) [
              | inl first_way ↦ inl (to_right.1 first_way.0, one_a.1 first_way.1)
              | inr other_way ↦ inr (λ both. other_way.0 (to_right.0 both), to_left.1 other_way.1, one_b.1 other_way.2)
            ],
            λ has. chosen.1 (elim has [
              | inl first_way ↦ inl (to_right.0 first_way.0, one_a.0 first_way.1)
              | inr other_way ↦ inr (λ pass. other_way.0 (to_right.1 pass), to_left.0 other_way.1, one_b.0 other_way.2)
            ]),
          )

  -- what is no equality of two items is nowhere
  nowhere_across : ((a b : ℕ) → IsEqualityAt q n a b → ⊥) → HasAcross first second n → ⊥
  nowhere_across never (inl has) = none_across never (inl has.0)
  nowhere_across never (inr has) = none_across never (inr has.0)

  nowhere_by : (among : EqualityEnds) → ((a b : ℕ) → IsEqualityAt q n a b → ⊥) → HasAcrossBy first second among n → ⊥
  nowhere_by among never (inl has) = none_across never (inl has.0.0)
  nowhere_by among never (inr has) = none_across never (inr has.1.0)

  no_pred : slice_get q.preds n ≡ None → (a b : ℕ) → IsEqualityAt q n a b → ⊥
  no_pred none a b is = let never : None ≡ Some is.pred = sym none ∙ is.there in let wrong : ⊥ = cc in wrong

  no_item : (pred : Pred) → slice_get q.preds n ≡ Some pred → equal_item pred.op pred.right ≡ None → (a b : ℕ)
      → IsEqualityAt q n a b → ⊥
  no_item pred there none a b is =
      let same : is.pred ≡ pred = cc in
      let item : equal_item pred.op pred.right ≡ Some b = rw (← same) is.second in
      let wrong : ⊥ = cc in
      wrong

  -- a predicate crosses exactly where the sets of the groups have it across
  crossing_with : (pred : Pred) → slice_get q.preds n ≡ Some pred → (b : Option ℕ) → equal_item pred.op pred.right ≡ b
      → (sides_with q left right pred.left b ≡ None → ⊥) ↔ HasAcross first second n
  crossing_with pred there None none = (
    λ some. absurd (some refl),
    λ has.
        absurd (nowhere_across (no_item pred there none) has),
  )
  crossing_with pred there (Some b) item =
      some_in pred.left b (record { pred = pred; there = there; first = refl; second = item })

  crossing_by_cases : (found : Option Pred) → slice_get q.preds n ≡ found → (crossing_at q left right found ≡ None → ⊥)
      ↔ HasAcross first second n
  crossing_by_cases None none = (λ some. absurd (some refl), λ has. absurd (nowhere_across (no_pred none) has))
  crossing_by_cases (Some pred) there = crossing_with pred there (equal_item pred.op pred.right) refl

  pub crossing_in : (crossing_of q left right n ≡ None → ⊥) ↔ HasAcross first second n
  crossing_in = crossing_by_cases (slice_get q.preds n) refl

  module _ (IsOne : ℕ → Type 0) (among : EqualityEnds) (of_some : AreEndsOf q IsOne among) where
    narrowed_with : (pred : Pred) → slice_get q.preds n ≡ Some pred → (b : Option ℕ) → equal_item pred.op pred.right ≡ b
        → ((c d : ℕ) × (sides_with q left right pred.left b ≡ Some (c, d)) × IsOne c) ↔ HasAcrossBy first second among n
    narrowed_with pred there None none = (
      λ (c, d, is, one). let wrong : ⊥ = cc in
          absurd wrong,
      λ has. absurd (nowhere_by among (no_item pred there none) has),
    )
    narrowed_with pred there (Some b) item =
        by_in pred.left b (record { pred = pred; there = there; first = refl; second = item }) IsOne among of_some

    narrowed_by_cases : (found : Option Pred) → slice_get q.preds n ≡ found
        → ((c d : ℕ) × (crossing_at q left right found ≡ Some (c, d)) × IsOne c) ↔ HasAcrossBy first second among n
    narrowed_by_cases None none = (
      λ (c, d, is, one). let wrong : ⊥ = cc in
          absurd wrong,
      λ has. absurd (nowhere_by among (no_pred none) has),
    )
    narrowed_by_cases (Some pred) there = narrowed_with pred there (equal_item pred.op pred.right) refl

    -- and its left column is one of some exactly where they have it across by these
    pub narrowed_in : CrossesBy q left right IsOne n ↔ HasAcrossBy first second among n
    narrowed_in = narrowed_by_cases (slice_get q.preds n) refl
