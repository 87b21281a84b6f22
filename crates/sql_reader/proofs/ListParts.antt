-- A list of elements, taken apart and put together.
use Rattle.std.proofs.Common.{◌≡◌, ℕ, ◌<◌, List, [], ◌∷◌, ◌++◌, length, refl, sym, subst, ◌∙◌, Some, inl, inr}
use Rattle.std.proofs.lemmas.List.{append-nil}
use Rattle.sql_reader.specs.declared.tokens.Token.{Token}
use Rattle.sql_reader.specs.declared.tokens.Mark.{Mark}
use Rattle.sql_reader.specs.declared.faults.Limit.{Limit}
use Rattle.sql_reader.specs.Grammar.{After, AtEnd, Either, Elements, Others}
use Rattle.sql_reader.specs.Tokens.{place_of}

-- more than so many
abbrev pub Above : {X : Type 0} → Limit → ℕ → Limit → List X → Type 0
Above what room w xs = (w ≡ what) × (room < length xs)

-- an element and others, taken apart
pub record Parts {X : Type 0} (mark : Mark) (IsX : List Token → X → Type 0) (tokens : List Token) (ys : List X) : Type
    0 where
  pub element : X
  pub others : List X
  pub front : List Token
  pub back : List Token
  pub are : ys ≡ element ∷ others
  pub whole : tokens ≡ front ++ back
  pub first : IsX front element
  pub second : Others mark IsX back others

pub parts_of : {X : Type 0} (mark : Mark) (IsX : List Token → X → Type 0) (tokens : List Token) (ys : List X)
    → Elements mark IsX tokens ys → Parts mark IsX tokens ys
parts_of mark IsX tokens ys h = go h.second.back h.second.second h.second.whole
  where
    go : (end : List Token) → AtEnd (h.value ∷ h.second.value) end ys → h.back ≡ h.second.front ++ end
        → Parts mark IsX tokens ys
    go [] d e = record {
      element = h.value;
      others = h.second.value;
      front = h.front;
      back = h.back;
      are = d;
      whole = h.whole;
      first = h.first;
      second = subst (λ (ts : List Token). Others mark IsX ts h.second.value) (sym (e ∙ append-nil h.second.front))
          h.second.first;
    }
    go (t ∷ end) d e = absurd d

pub elements_from : {X : Type 0} (mark : Mark) (IsX : List Token → X → Type 0) (front back : List Token) (x : X)
    (xs : List X) → IsX front x → Others mark IsX back xs → Elements mark IsX (front ++ back) (x ∷ xs)
elements_from mark IsX front back x xs h k = record {
  front = front;
  back = back;
  value = x;
  whole = refl;
  first = h;
  second = record { front = back; back = []; value = xs; whole = sym (append-nil back); first = k; second = refl };
}

-- ---- what stands behind the first element

module _ {X : Type 0} (mark : Mark) (IsX : List Token → X → Type 0) where
  -- no element, or the mark and elements
  pub out_of_others : (ts : List Token) (xs : List X) → Others mark IsX ts xs
      → Either (After (place_of mark) (λ _. Elements mark IsX)) (AtEnd []) ts xs
  out_of_others [] [] h = inr refl
  out_of_others (t ∷ ts) [] h = absurd h
  out_of_others [] (x ∷ xs) h = absurd h
  out_of_others (t ∷ ts) (x ∷ xs) h =
      inl (
        h.0,
        h.1,
        subst (λ (us : List Token). Elements mark IsX us (x ∷ xs)) (sym h.4)
            (elements_from mark IsX h.2 h.3 x xs h.5 h.6),
      )

  into_others_from : (t : Token) (ts : List Token) (at : ℕ) → place_of mark t ≡ Some at → (ys : List X)
      → Parts mark IsX ts ys → Others mark IsX (t ∷ ts) ys
  into_others_from t ts at s ys p =
      let all : Others mark IsX (t ∷ ts) (p.element ∷ p.others) =
      (at, s, p.front, p.back, p.whole, p.first, p.second) in
      subst (λ (zs : List X). Others mark IsX (t ∷ ts) zs) (sym p.are) all

  -- and these make the others
  pub into_others : (ts : List Token) (xs : List X)
      → Either (After (place_of mark) (λ _. Elements mark IsX)) (AtEnd []) ts xs → Others mark IsX ts xs
  into_others [] xs (inl h) = absurd h
  into_others (t ∷ ts) xs (inl h) = into_others_from t ts h.0 h.1 xs (parts_of mark IsX ts xs h.2)
  into_others [] xs (inr h) = subst (λ (zs : List X). Others mark IsX [] zs) (sym h) tt
  into_others (t ∷ ts) xs (inr h) = absurd h
