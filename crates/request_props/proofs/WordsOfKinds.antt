-- The words of all expressions of a kind in order, one kind behind the other.
use Rattle.std.proofs.Common.{◌≡◌, ℕ, ◌+◌, ◌-◌, ◌<◌, ◌≤◌, ◌⊎◌, inl, inr, List, [], ◌∷◌, ◌++◌, length, get_or, refl, ap}
use Rattle.std.proofs.Common.{sym, subst, arith}
use Rattle.std.specs.List.{All, Contains}
use Rattle.std.specs.List.Sorted.{IsStrictlyIncreasing}
use Rattle.std.proofs.lemmas.Bool.{cases_lt}
use Rattle.std.proofs.lemmas.List.{get_or_append_left, get_or-append_right, get_or_default, length-append}
use Rattle.std.proofs.lemmas.List.Elements.{All-append, Contains-append_left, Contains-append_right}
use Rattle.query_core.specs.Expressions.{word_of}
use Rattle.query_core.specs.declared.expressions.ExprParts.{ExprParts}

-- ---- ascending numbers

-- ascending numbers behind others that are all below them
rises_append : (xs ys : List ℕ) → IsStrictlyIncreasing xs → IsStrictlyIncreasing ys
    → ((x y : ℕ) → Contains xs x → Contains ys y → x < y) → IsStrictlyIncreasing (xs ++ ys)
rises_append xs ys first second apart k within = elim (cases_lt (k + 1) (length xs)) [
  | inl inside ↦ rw (get_or_append_left xs ys 0 k (omega (arith, inside)))
      (rw (get_or_append_left xs ys 0 (k + 1) inside) (first k inside))
  | inr past ↦ elim (cases_lt k (length xs)) [
    | inl last ↦
        let there : 0 < length ys = omega (arith, length-append xs ys, within, last) in
        let at : k + 1 - length xs ≡ 0 = omega (arith, past, last) in
        rw (get_or_append_left xs ys 0 k last) (rw (get_or-append_right xs ys (length xs) (k + 1) 0 refl past) (rw at
        (apart (get_or xs k 0) (get_or ys 0 0) (k, last, get_or_default xs k _ _ last)
        (0, there, get_or_default ys 0 _ _ there))))
    | inr beyond ↦
        let next : k + 1 - length xs ≡ (k - length xs) + 1 = omega (arith, beyond) in
        let inside : (k - length xs) + 1 < length ys = omega (arith, length-append xs ys, within, beyond) in
        rw (get_or-append_right xs ys (length xs) k 0 refl beyond)
        (rw (get_or-append_right xs ys (length xs) (k + 1) 0 refl past) (rw next (second (k - length xs) inside)))
  ]
]

-- ---- words of a kind

-- the word is that of an expression of the kind
abbrev pub IsWordOf : (ExprParts → Type 0) → ℕ → Type 0
IsWordOf Kind word = (e : ExprParts) × Kind e × (word_of e ≡ word)

-- the words of all expressions of the kind, and no others, strictly ascending
pub record AreWordsOf (Kind : ExprParts → Type 0) (words : List ℕ) : Type 0 where
  pub ascending : IsStrictlyIncreasing words
  pub sound : All (IsWordOf Kind) words
  pub complete : (e : ExprParts) → Kind e → Contains words (word_of e)

-- the words of the kind are below the limit
abbrev pub AreBelow : (ExprParts → Type 0) → ℕ → Type 0
AreBelow Kind limit = (e : ExprParts) → Kind e → word_of e < limit

-- the words of the kind are from the limit on
abbrev pub AreFrom : (ExprParts → Type 0) → ℕ → Type 0
AreFrom Kind limit = (e : ExprParts) → Kind e → limit ≤ word_of e

-- a word among those of a kind is that of an expression
word_among : (Kind : ExprParts → Type 0) (words : List ℕ) (w : ℕ) → AreWordsOf Kind words → Contains words w
    → IsWordOf Kind w
word_among Kind words w are (k, within, is) = subst (IsWordOf Kind) is (are.sound k w within)

module _ (S T : ExprParts → Type 0) where
  -- the words of two kinds, of which the first comes before the second
  pub words_of_both : (limit : ℕ) (first second : List ℕ) → AreBelow S limit → AreFrom T limit → AreWordsOf S first
      → AreWordsOf T second
      → AreWordsOf (λ e. S e ⊎ T e) (first ++ second)
  words_of_both limit first second below from are others = record {
    ascending = rises_append first second are.ascending others.ascending (λ v w there here.
        let (x, one, v_is) = word_among S first v are there in
        let (y, other, w_is) = word_among T second w others here in
        omega (arith, below x one, from y other, v_is, w_is));
    sound = All-append (IsWordOf (λ e. S e ⊎ T e)) first second
        (λ k d within. let (e, kind, is) = are.sound k d within in (e, inl kind, is))
        (λ k d within. let (e, kind, is) = others.sound k d within in (e, inr kind, is));
    complete = λ e both. elim both [
      | inl one ↦ Contains-append_left first second (word_of e) (are.complete e one)
      | inr other ↦ Contains-append_right first second (word_of e) (others.complete e other)
    ];
  }

-- one expression has one word
pub word_of_one : (e : ExprParts) → AreWordsOf (λ x. x ≡ e) (word_of e ∷ [])
word_of_one e = record {
  ascending = λ k within. absurd (omega (arith, within));
  sound = λ k d within. (e, refl, let first : k ≡ 0 = omega (arith, within) in rw first refl);
  complete = λ x same. (0, omega arith, ap word_of (sym same));
}

-- the same kind in other words
pub words_as : (S T : ExprParts → Type 0) (words : List ℕ) → ((e : ExprParts) → S e → T e)
    → ((e : ExprParts) → T e → S e) → AreWordsOf S words → AreWordsOf T words
words_as S T words to from are = record {
  ascending = are.ascending;
  sound = λ k d within. let (e, kind, is) = are.sound k d within in (e, to e kind, is);
  complete = λ e kind. are.complete e (from e kind);
}
