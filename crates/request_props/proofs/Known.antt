-- What is found of keys, and of the sides of equalities.
use Rattle.std.proofs.Common.{◌≡◌, ℕ, zero, suc, ◌+◌, ◌<◌, ◌↔◌, Bool, false, List, [], ◌∷◌, ◌++◌, length, get_or}
use Rattle.std.proofs.Common.{Option, Some, None, inl, inr, refl, sym, subst, arith, IsTrue}
use Rattle.std.specs.Prelude.{slice_get, slice_index_or}
use Rattle.std.specs.List.{list_all}
use Rattle.std.specs.Option.{option_map_or}
use Rattle.std.proofs.lemmas.Bool.{and_parts, cases_lt}
use Rattle.std.proofs.lemmas.List.{get_or_append_left}
use Rattle.std.proofs.Math.Seq.{get_or-append_seam}
use Rattle.query_core.specs.Crossing.{sides_of, sides_with, crossing_at, equal_item}
use Rattle.query_core.specs.Keys.{IsKey}
use Rattle.query_core.specs.declared.predicate.Pred.{Pred}
use Rattle.query_core.specs.declared.query.Query.{Query}
use Rattle.query_core.specs.declared.words.KeyParts.{KeyParts}
use Rattle.request_props.specs.Counted.{HaveNumbers}
use Rattle.request_props.specs.Ends.{IsEqualityAt}
use Rattle.request_props.specs.Groups.{AreKeysBelow, key_of}
use Rattle.request_props.specs.Numbered.{side_of, equality_with, equality_of}
use Rattle.request_props.specs.declared.sides.Equality.{Equality}

-- one more number is told
pub keys_more : (q : Query) (keys new : List Bool) (n : ℕ) (here : Bool) → new ≡ keys ++ here ∷ [] → length keys ≡ n
    → AreKeysBelow q n keys
    → IsTrue here ↔ IsKey q (key_of n) → AreKeysBelow q (n + 1) new
keys_more q keys new n here grown count each is k within = elim (cases_lt k n) [
  | inl below ↦
      let same : get_or new k false ≡ get_or keys k false =
      rw grown (get_or_append_left keys (here ∷ []) false k (omega arith)) in
      subst (λ (b : Bool). IsTrue b ↔ IsKey q (key_of k)) (sym same) (each k below)
  | inr above ↦
      let last : k ≡ n = omega arith in
      let at_end : get_or new (length keys) false ≡ here = rw grown (get_or-append_seam keys here [] false) in
      let same : get_or new n false ≡ here = subst (λ (m : ℕ). get_or new m false ≡ here) count at_end in
      subst (λ (m : ℕ). IsTrue (slice_index_or new m false) ↔ IsKey q (key_of m)) (sym last)
      (subst (λ (b : Bool). IsTrue b ↔ IsKey q (key_of n)) (sym same) is)
]

-- what holds of all elements holds of each
pub all_at : {X : Type 0} (p : X → Bool) (xs : List X) → IsTrue (list_all p xs) → (k : ℕ) (d : X) → k < length xs
    → IsTrue (p (slice_index_or xs k d))
all_at p [] all k d within = absurd (omega (arith, within))
all_at p (x ∷ xs) all zero d within = (and_parts _ _ all).0
all_at p (x ∷ xs) all (suc k) d within = all_at p xs (and_parts _ _ all).1 k d (omega (arith, within))

-- the predicate of this number is the equality, with the numbers of its columns, and equates these across two groups
pub record Equates (q : Query) (left right : KeyParts) (number : ℕ) (e : Equality)
    (crossing : Option (ℕ × ℕ)) : Type 0 where
  pub is_at : IsEqualityAt q number e.left.column e.right.column
  pub numbers : HaveNumbers q (Some e)
  pub same : crossing ≡ sides_of q left right e.left.column e.right.column

module _ (q : Query) (left right : KeyParts) where
  none_with : (a : ℕ) (b : Option ℕ) → equality_with q a b ≡ None → sides_with q left right a b ≡ None
  none_with a None is = refl
  none_with a (Some b) is = cc

  -- no equality crosses nowhere
  pub crossing_none : (pred : Option Pred) → option_map_or (equality_of q) pred None ≡ None
      → crossing_at q left right pred ≡ None
  crossing_none None is = refl
  crossing_none (Some pred) is = none_with pred.left (equal_item pred.op pred.right) is

  module _ (number : ℕ) (e : Equality) where
    some_with : (pred : Pred) → slice_get q.preds number ≡ Some pred → (b : Option ℕ)
        → equal_item pred.op pred.right ≡ b → equality_with q pred.left b ≡ Some e
        → Equates q left right number e (sides_with q left right pred.left b)
    some_with pred there None item is = cc
    some_with pred there (Some b) item is =
        let both : Equality = record { left = side_of q pred.left; right = side_of q b } in
        let same : both ≡ e = cc in
        subst (λ (f : Equality). Equates q left right number f (sides_of q left right pred.left b)) same (record {
          is_at = record { pred = pred; there = there; first = refl; second = item };
          numbers = (refl, refl);
          same = refl;
        })

    -- an equality crosses where its sides lie
    pub crossing_some : (pred : Option Pred) → slice_get q.preds number ≡ pred
        → option_map_or (equality_of q) pred None ≡ Some e
        → Equates q left right number e (crossing_at q left right pred)
    crossing_some None there is = cc
    crossing_some (Some pred) there is = some_with pred there (equal_item pred.op pred.right) refl is
