-- Words for languages of token lists: such a language says which lists stand for which values.
use Rattle.std.specs.Prelude.{◌≡◌, List, [], ◌∷◌, ◌++◌, Option, Some, ℕ, ◌⊎◌}
use Rattle.sql_reader.specs.declared.tokens.Token.{Token}
use Rattle.sql_reader.specs.declared.tokens.Mark.{Mark}
use Rattle.sql_reader.specs.Tokens.{place_of}

-- no token, and this value
abbrev pub AtEnd : {X : Type 0} → X → List Token → X → Type 0
AtEnd value [] x = x ≡ value
AtEnd value (token ∷ tokens) x = ⊥

-- a token that says something, and then what may follow what it says
abbrev pub After : {V X : Type 0} → (Token → Option V) → (V → List Token → X → Type 0) → List Token → X → Type 0
After says IsX [] x = ⊥
After {V} says IsX (token ∷ tokens) x = (v : V) × (says token ≡ Some v) × IsX v tokens x

-- something, and then what may follow it
pub record Then {X Z : Type 0} (IsX : List Token → X → Type 0) (IsZ : X → List Token → Z → Type 0)
    (tokens : List Token) (z : Z) : Type 0 where
  pub front : List Token
  pub back : List Token
  pub value : X
  pub whole : tokens ≡ front ++ back
  pub first : IsX front value
  pub second : IsZ value back z

-- one or the other
abbrev pub Either : {X : Type 0} → (List Token → X → Type 0) → (List Token → X → Type 0) → List Token → X → Type 0
Either IsX IsY tokens x = IsX tokens x ⊎ IsY tokens x

-- any number of elements, each behind the mark
abbrev pub Others : {X : Type 0} → Mark → (List Token → X → Type 0) → List Token → List X → Type 0
Others mark IsX [] [] = Unit {0}
Others mark IsX (token ∷ tokens) [] = ⊥
Others mark IsX [] (x ∷ xs) = ⊥
Others mark IsX (token ∷ tokens) (x ∷ xs) =
    (at : ℕ) × (place_of mark token ≡ Some at)
    × (front : List Token) × (back : List Token) × (tokens ≡ front ++ back) × IsX front x × Others mark IsX back xs

-- one element or more, with the mark between
abbrev pub Elements : {X : Type 0} → Mark → (List Token → X → Type 0) → List Token → List X → Type 0
Elements mark IsX = Then IsX (λ x. Then (Others mark IsX) (λ xs. AtEnd (x ∷ xs)))
