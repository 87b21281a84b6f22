-- Laws of the equalities that have one of some columns, one predicate after the other.
use Rattle.std.proofs.Common.{◌≡◌, ◌⊎◌, ◌↔◌, inl, inr, ℕ, zero, suc, ◌+◌, ◌<◌, List, [], ◌∷◌, Option, None, Some, map}
use Rattle.std.proofs.Common.{get_or, arith, ap, refl, sym, subst, ◌∙◌}
use Rattle.std.specs.Prelude.{slice_get}
use Rattle.std.specs.Option.{option_map_or}
use Rattle.std.proofs.lemmas.Bool.{cases_eq}
use Rattle.query_core.specs.declared.query.Query.{Query}
use Rattle.query_core.specs.Crossing.{equal_item}
use Rattle.query_core.specs.declared.predicate.Pred.{Pred}
use Rattle.request_props.specs.Counted.{HaveNumbers, IsByLeft, IsByRight}
use Rattle.request_props.specs.Ends.{BeginsIn, EndsIn, AreEndsBelow, AreEndsOf}
use Rattle.request_props.specs.NumberSets.{IsInSet}
use Rattle.request_props.specs.Numbered.{equality_with, equality_of}
use Rattle.request_props.specs.declared.tables.ends.EqualityEnds.{EqualityEnds}
use Rattle.request_props.specs.declared.sides.Equality.{Equality}

-- what a list of equalities has at a place, or none beyond its end
at_place : (q : Query) (preds : List Pred) (n : ℕ)
    → get_or (map (equality_of q) preds) n None ≡ option_map_or (equality_of q) (slice_get preds n) None
at_place q [] n = refl
at_place q (pred ∷ preds) zero = refl
at_place q (pred ∷ preds) (suc n) = at_place q preds n

-- each has the numbers of its columns
numbers_with : (q : Query) (left : ℕ) (right : Option ℕ) → HaveNumbers q (equality_with q left right)
numbers_with q left None = tt
numbers_with q left (Some right) = (refl, refl)

numbers_by : (q : Query) (pred : Option Pred) → HaveNumbers q (option_map_or (equality_of q) pred None)
numbers_by q None = tt
numbers_by q (Some pred) = numbers_with q pred.left (equal_item pred.op pred.right)

pub have_numbers : (q : Query) (equalities : List (Option Equality)) → equalities ≡ map (equality_of q) q.preds
    → (n : ℕ) → HaveNumbers q (get_or equalities n None)
have_numbers q equalities are n = rw are (rw (at_place q q.preds n) (numbers_by q (slice_get q.preds n)))

module _ (q : Query) (IsOne : ℕ → Type 0) where
  -- sets of no predicates
  pub none_below : (ends : EqualityEnds) → ((n : ℕ) → IsInSet ends.first n → ⊥) → ((n : ℕ) → IsInSet ends.second n → ⊥)
      → AreEndsBelow q IsOne 0 ends
  none_below ends first second = record {
    first = λ n. (λ has. absurd (first n has), λ below. absurd (omega (arith, below.0)));
    second = λ n. (λ has. absurd (second n has), λ below. absurd (omega (arith, below.0)));
  }

  module _ (n : ℕ) where
    -- the equality of a predicate is by the columns of the predicate
    left_with : (pred : Pred) → slice_get q.preds n ≡ Some pred → (right : Option ℕ)
        → equal_item pred.op pred.right ≡ right → IsByLeft IsOne (equality_with q pred.left right) ↔ BeginsIn q IsOne n
    left_with pred there None none = (
      λ never. absurd never,
      λ (a, b, is, one). let same : pred ≡ is.pred = cc in
          let both : equal_item pred.op pred.right ≡ Some b = rw same is.second in let wrong : ⊥ = cc in absurd wrong,
    )
    left_with pred there (Some right) second = (
      λ one. (pred.left, right, record { pred = pred; there = there; first = refl; second = second }, one),
      λ (a, b, is, one). let same : pred ≡ is.pred = cc in let own : a ≡ pred.left = sym is.first
          ∙ ap (λ (p : Pred). p.left) (sym same) in subst IsOne own one,
    )

    left_by : (pred : Option Pred) → slice_get q.preds n ≡ pred
        → IsByLeft IsOne (option_map_or (equality_of q) pred None) ↔ BeginsIn q IsOne n
    left_by None none = (λ never. absurd never, λ (a, b, is, one). let wrong : ⊥ = cc in absurd wrong)
    left_by (Some pred) there = left_with pred there (equal_item pred.op pred.right) refl

    right_with : (pred : Pred) → slice_get q.preds n ≡ Some pred → (right : Option ℕ)
        → equal_item pred.op pred.right ≡ right → IsByRight IsOne (equality_with q pred.left right) ↔ EndsIn q IsOne n
    right_with pred there None none = (
      λ never. absurd never,
      λ (a, b, is, one). let same : pred ≡ is.pred = cc in
          let both : equal_item pred.op pred.right ≡ Some b = rw same is.second in let wrong : ⊥ = cc in absurd wrong,
    )
    right_with pred there (Some right) second = (
      λ one. (pred.left, right, record { pred = pred; there = there; first = refl; second = second }, one),
      λ (a, b, is, one).
          let same : pred ≡ is.pred = cc in
          let item : equal_item pred.op pred.right ≡ Some b = rw same is.second in
          let own : b ≡ right = cc in
          subst IsOne own one,
    )

    right_by : (pred : Option Pred) → slice_get q.preds n ≡ pred
        → IsByRight IsOne (option_map_or (equality_of q) pred None) ↔ EndsIn q IsOne n
    right_by None none = (λ never. absurd never, λ (a, b, is, one). let wrong : ⊥ = cc in absurd wrong)
    right_by (Some pred) there = right_with pred there (equal_item pred.op pred.right) refl

  -- a set with one more predicate, where it is such a one, has those of one more
  set_more : (Is : ℕ → Type 0) (IsHere : Type 0) (n : ℕ) (InOld InNew : ℕ → Type 0) → IsHere ↔ Is n
      → ((k : ℕ) → InOld k ↔ ((k < n) × Is k))
      → ((k : ℕ) → InNew k ↔ (InOld k ⊎ ((k ≡ n) × IsHere))) → (k : ℕ) → InNew k ↔ ((k < n + 1) × Is k)
  set_more Is IsHere n InOld InNew here old new k = (
    λ has. elim ((new k).0 has) [
      | inl before ↦ let was = (old k).0 before in (omega (arith, was.0), was.1)
      | inr this ↦ (omega (arith, this.0), subst Is (sym this.0) (here.0 this.1))
    ],
    λ below. elim (cases_eq k n) [
      | inl same ↦ (new k).1 (inr (same, here.1 (subst Is same below.1)))
      | inr differ ↦ (new k).1 (inl ((old k).1 (omega (arith, below.0, differ), below.1)))
    ],
  )

  -- sets of one more predicate
  pub ends_more : (equalities : List (Option Equality)) → equalities ≡ map (equality_of q) q.preds
      → (n : ℕ) (ends new : EqualityEnds) → AreEndsBelow q IsOne n ends
      → ((k : ℕ) → IsInSet new.first k ↔ (IsInSet ends.first k ⊎ ((k ≡ n) × IsByLeft IsOne (get_or equalities n None))))
      → ((k : ℕ) → IsInSet new.second k ↔ (IsInSet ends.second k
      ⊎ ((k ≡ n) × IsByRight IsOne (get_or equalities n None))))
      → AreEndsBelow q IsOne (n + 1) new
  ends_more equalities are n ends new before first second =
      let pred = slice_get q.preds n in
      let here : get_or equalities n None ≡ option_map_or (equality_of q) pred None = rw are (at_place q q.preds n) in
      let left = subst (λ e. IsByLeft IsOne e ↔ BeginsIn q IsOne n) (sym here) (left_by n pred refl) in
      let right = subst (λ e. IsByRight IsOne e ↔ EndsIn q IsOne n) (sym here) (right_by n pred refl) in
      record {
        first = set_more (BeginsIn q IsOne) (IsByLeft IsOne (get_or equalities n None)) n (IsInSet ends.first)
            (IsInSet new.first) left before.first first;
        second = set_more (EndsIn q IsOne) (IsByRight IsOne (get_or equalities n None)) n (IsInSet ends.second)
            (IsInSet new.second) right before.second second;
      }

-- sets of some columns are those of others that are the same
pub ends_same : (q : Query) (IsOne IsOther : ℕ → Type 0) (ends : EqualityEnds)
    → ((column : ℕ) → IsOne column ↔ IsOther column) → AreEndsOf q IsOne ends → AreEndsOf q IsOther ends
ends_same q IsOne IsOther ends same are = record {
  first = λ k. (
    λ has. let (below, (a, b, is, one)) = (are.first k).0 has in (below, (a, b, is, (same a).0 one)),
    λ (below, (a, b, is, one)). (are.first k).1 (below, (a, b, is, (same a).1 one)),
  );
  second = λ k. (
    λ has. let (below, (a, b, is, one)) = (are.second k).0 has in (below, (a, b, is, (same b).0 one)),
    λ (below, (a, b, is, one)). (are.second k).1 (below, (a, b, is, (same b).1 one)),
  );
}

-- and by either of two kinds of columns they are those by the one and those by the other
pub ends_either : (q : Query) (IsEither IsOne IsOther : ℕ → Type 0) (one other both : EqualityEnds)
    → ((column : ℕ) → IsEither column ↔ (IsOne column ⊎ IsOther column))
    → AreEndsOf q IsOne one → AreEndsOf q IsOther other
    → ((k : ℕ) → IsInSet both.first k ↔ (IsInSet one.first k ⊎ IsInSet other.first k))
    → ((k : ℕ) → IsInSet both.second k ↔ (IsInSet one.second k ⊎ IsInSet other.second k))
    → AreEndsOf q IsEither both
ends_either q IsEither IsOne IsOther one other both either of_one of_other first second = record {
  first = λ k. (
    λ has. elim ((first k).0 has) [
      | inl own ↦ let (below, (a, b, is, is_one)) = (of_one.first k).0 own in (below, (a, b, is, (either a).1 (inl is_one)))
      | inr own ↦
          let (below, (a, b, is, is_one)) = (of_other.first k).0 own in
          (below, (a, b, is, (either a).1 (inr is_one)))
    ],
    λ (below, (a, b, is, is_one)). (first k).1 (elim ((either a).0 is_one) [
      | inl own ↦ inl ((of_one.first k).1 (below, (a, b, is, own)))
      | inr own ↦ inr ((of_other.first k).1 (below, (a, b, is, own)))
    ]),
  );
  second = λ k. (
    λ has. elim ((second k).0 has) [
      | inl own ↦ let (below, (a, b, is, is_one)) = (of_one.second k).0 own in (below, (a, b, is, (either b).1 (inl is_one)))
      | inr own ↦
          let (below, (a, b, is, is_one)) = (of_other.second k).0 own in
          (below, (a, b, is, (either b).1 (inr is_one)))
    ],
    λ (below, (a, b, is, is_one)). (second k).1 (elim ((either b).0 is_one) [
      | inl own ↦ inl ((of_one.second k).1 (below, (a, b, is, own)))
      | inr own ↦ inr ((of_other.second k).1 (below, (a, b, is, own)))
    ]),
  );
}
