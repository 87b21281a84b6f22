-- Reading tokens from left to right: a step answers its value and the tokens behind it, or where it stopped.
use Rattle.std.specs.Prelude.{◌≡◌, ℕ, zero, suc, Bool, true, false, if◌then◌else◌, List, [], ◌∷◌, Option, Some, None}
use Rattle.std.specs.Prelude.{Result, Ok, Err, is_some}
use Rattle.std.specs.Borrow.{Bor}
use Rattle.orca_base.specs.Checked.{◌>>=◌}
use Rattle.sql_reader.specs.declared.tokens.Mark.{Mark}
use Rattle.sql_reader.specs.declared.tokens.Token.{Token}
use Rattle.sql_reader.specs.declared.faults.Limit.{Limit}
use Rattle.sql_reader.specs.Tokens.{place_of}

-- why a step stopped, and the tokens from that place on
pub data Stopped : Type 0 where
  unexpected : List Token → Stopped
  too_many : Limit → List Token → Stopped

-- what a step answers: a value and the tokens behind it, or why it stopped
abbrev pub Step : Type 0 → Type 0
Step X = Result (X × List Token) Stopped

-- nothing is read, and this is the value
abbrev pub done_at : {X : Type 0} → X → List Token → Step X
done_at x tokens = Ok (x, tokens)

-- what a token said, or where there is nothing of the kind
abbrev pub taken : {V : Type 0} → Option V → List Token → List Token → Step V
taken (Some v) tokens rest = Ok (v, rest)
taken None tokens rest = Err (unexpected tokens)

-- one token, which says something
abbrev pub one : {V : Type 0} → (Token → Option V) → List Token → Step V
one says [] = Err (unexpected [])
one says (token ∷ tokens) = taken (says token) (token ∷ tokens) tokens

-- whether the next token says something
abbrev pub ahead : {V : Type 0} → (Token → Option V) → List Token → Bool
ahead says [] = false
ahead says (token ∷ tokens) = is_some (says token)

-- a token that says something was taken, and no other
abbrev pub Takes : {V : Type 0} → (Token → Option V) → List Token → Option V → List Token → Type 0
Takes says tokens (Some v) rest = (ahead says tokens ≡ true) × (one says tokens ≡ Ok (v, rest))
Takes says tokens None rest = (ahead says tokens ≡ false) × (one says tokens ≡ Err (unexpected tokens))
    × (rest ≡ tokens)

-- the token is what it says, or it says nothing and is there still
abbrev pub Parts : {V : Type 0} → (Token → Option V) → Token → Result V Token → Type 0
Parts says token (Ok v) = says token ≡ Some v
Parts says token (Err same) = (says token ≡ None) × (same ≡ token)

-- the tokens behind the next
abbrev pub behind_next : List Token → List Token
behind_next [] = []
behind_next (token ∷ tokens) = tokens

-- the next token, where there is one
abbrev pub IsNext : List Token → Option (Bor Token) → Type 0
IsNext [] None = Unit {0}
IsNext [] (Some token) = ⊥
IsNext (token ∷ tokens) None = ⊥
IsNext (token ∷ tokens) (Some next) = next.now ≡ token

-- the next token's place, or the end
abbrev pub next_place : List Token → ℕ → ℕ
next_place [] end = end
next_place (token ∷ tokens) end = token.at

-- a step, and another for its value
abbrev pub then_at : {X Z : Type 0} → (List Token → Step X) → (X → List Token → Step Z) → List Token → Step Z
then_at read next tokens = read tokens >>= λ p. next p.0 p.1

-- one token that says something, and the step that follows
abbrev pub after_at : {V X : Type 0} → (Token → Option V) → (V → List Token → Step X) → List Token → Step X
after_at says next = then_at (one says) next

-- the one step where the next token says something, else the other
abbrev pub branch_at : {V X : Type 0} → (Token → Option V) → (V → List Token → Step X) → (List Token → Step X)
    → List Token → Step X
branch_at says next other tokens = if ahead says tokens then after_at says next tokens else other tokens

-- one element too many begins, or nothing that is an element
abbrev pub refused : (Token → Bool) → Limit → {X : Type 0} → List Token → Step X
refused starts what [] = Err (unexpected [])
refused starts what (token ∷ tokens) =
    if starts token then Err (too_many what (token ∷ tokens)) else Err (unexpected (token ∷ tokens))

-- one element or more, with the mark between, where there is room for so many
abbrev pub elements_at : {X : Type 0} → Mark → (Token → Bool) → (List Token → Step X) → Limit → ℕ → List Token
    → Step (List X)
elements_at mark starts read what zero tokens = refused starts what tokens
elements_at mark starts read what (suc room) tokens =
    read tokens >>= λ x.
    (if ahead (place_of mark) x.1 then (one (place_of mark) x.1 >>= λ s. elements_at mark starts read what room s.1)
    else Ok ([], x.1)) >>= λ xs.
    Ok (x.0 ∷ xs.0, xs.1)
