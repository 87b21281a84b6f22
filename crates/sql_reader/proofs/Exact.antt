-- What it means that steps are exact for a language of token lists: each reads the longest front that can go on.
use Rattle.std.proofs.Common.{◌≡◌, ◌≤◌, List, [], ◌∷◌, ◌++◌, length, Ok, Err, refl}
use Rattle.sql_reader.specs.declared.tokens.Token.{Token}
use Rattle.sql_reader.specs.declared.faults.Limit.{Limit}
use Rattle.sql_reader.specs.Steps.{Step, unexpected, too_many}

-- both are empty, or both begin with one token
abbrev pub BeginAlike : List Token → List Token → Type 0
BeginAlike [] [] = Unit {0}
BeginAlike [] (u ∷ us) = ⊥
BeginAlike (t ∷ ts) [] = ⊥
BeginAlike (t ∷ ts) (u ∷ us) = t ≡ u

-- the next token is none of these
abbrev pub Blocked : (Token → Type 0) → List Token → Type 0
Blocked More [] = Unit {0}
Blocked More (t ∷ ts) = More t → ⊥

-- the front can go on to something within the limits
pub record GoesOn {X : Type 0} (IsX : List Token → X → Type 0) (Over : Limit → X → Type 0) (front : List Token) : Type
    0 where
  pub more : List Token
  pub value : X
  pub member : IsX (front ++ more) value
  pub within : (w : Limit) → Over w value → ⊥

-- a whole front was read, within the limits, and the next token decided alone that it is whole
pub record Found {X : Type 0} (IsX : List Token → X → Type 0) (Over : Limit → X → Type 0) (read : List Token → Step X)
    (tokens : List Token) (value : X) (rest : List Token) : Type 0 where
  pub front : List Token
  pub whole : tokens ≡ front ++ rest
  pub member : IsX front value
  pub within : (w : Limit) → Over w value → ⊥
  pub local : (others : List Token) → BeginAlike others rest → read (front ++ others) ≡ Ok (value, others)

-- the front can go on, at most its last token makes it exceed a limit, and the next token decided alone that it
-- can't go on
pub record Breaks {X : Type 0} (IsX : List Token → X → Type 0) (Over : Limit → X → Type 0)
    (read : List Token → Step X) (tokens : List Token) (rest : List Token) : Type 0 where
  pub front : List Token
  pub last : List Token
  pub short : length last ≤ 1
  pub whole : tokens ≡ front ++ (last ++ rest)
  pub goes : GoesOn IsX Over front
  pub more : List Token
  pub value : X
  pub member : IsX (front ++ (last ++ more)) value
  pub local : (others : List Token) → BeginAlike others rest
      → read (front ++ (last ++ others)) ≡ Err (unexpected others)

-- no answer but that there are too many
abbrev pub Refuses : {X : Type 0} → Limit → Step X → Type 0
Refuses w (Ok p) = ⊥
Refuses w (Err (unexpected rest)) = Unit {0}
Refuses w (Err (too_many v rest)) = v ≡ w

-- behind the last token all that could follow exceeds the limit, and the next token can follow it, exceeding that
-- limit alone
pub record Overflows {X : Type 0} (IsX : List Token → X → Type 0) (Over : Limit → X → Type 0)
    (read : List Token → Step X) (w : Limit) (tokens : List Token) (rest : List Token) : Type 0 where
  pub front : List Token
  pub last : Token
  pub whole : tokens ≡ front ++ last ∷ rest
  pub goes : GoesOn IsX Over front
  pub next : Token
  pub others : List Token
  pub rest_is : rest ≡ next ∷ others
  pub more : List Token
  pub value : X
  pub member : IsX (front ++ last ∷ next ∷ more) value
  pub alone : (v : Limit) → Over v value → v ≡ w
  pub full : (after : List Token) → Refuses w (read (front ++ last ∷ after))

abbrev pub Answers : {X : Type 0} → (List Token → X → Type 0) → (Limit → X → Type 0) → (List Token → Step X)
    → List Token → Step X → Type 0
Answers IsX Over read tokens (Ok p) = Found IsX Over read tokens p.0 p.1
Answers IsX Over read tokens (Err (unexpected rest)) = Breaks IsX Over read tokens rest
Answers IsX Over read tokens (Err (too_many w rest)) = Overflows IsX Over read w tokens rest

-- what was there is read again, unless it exceeds a limit
abbrev pub Again : {X : Type 0} → (Limit → X → Type 0) → X → List Token → Step X → Type 0
Again Over x rest (Ok p) = (p.0 ≡ x) × (p.1 ≡ rest)
Again Over x rest (Err (unexpected r)) = ⊥
Again Over x rest (Err (too_many w r)) = Over w x

-- First begins it, More goes on with something whole, and it is empty only under Empty
pub record Exact {X : Type 0} (IsX : List Token → X → Type 0) (First More : Token → Type 0) (Empty : Type 0)
    (Over : Limit → X → Type 0) (read : List Token → Step X) : Type 0 where
  pub first : (t : Token) (tokens : List Token) (x : X) → IsX (t ∷ tokens) x → First t
  pub empty : (x : X) → IsX [] x → Empty
  pub again : (front : List Token) (x : X) (rest : List Token) → IsX front x → Blocked More rest
      → Again Over x rest (read (front ++ rest))
  pub answers : (tokens : List Token) → Answers IsX Over read tokens (read tokens)
  pub start : GoesOn IsX Over []

abbrev pub Never : {X : Type 0} → Limit → X → Type 0
Never w x = ⊥

abbrev pub NoToken : Token → Type 0
NoToken t = ⊥

-- lists that begin alike still do behind the same front
pub BeginAlike-append : (front others rest : List Token) → BeginAlike others rest
    → BeginAlike (front ++ others) (front ++ rest)
BeginAlike-append [] others rest h = h
BeginAlike-append (t ∷ front) others rest h = refl

-- more tokens may be named than there are
pub as_exact : {X : Type 0} {IsX : List Token → X → Type 0} {First More First' More' : Token → Type 0}
    {Empty Empty' : Type 0} {Over : Limit → X → Type 0} {read : List Token → Step X}
    → Exact IsX First More Empty Over read → ((t : Token) → First t → First' t) → ((t : Token) → More t → More' t)
    → (Empty → Empty') → Exact IsX First' More' Empty' Over read
as_exact e f m n = record {
  first = λ t tokens x h. f t (e.first t tokens x h);
  empty = λ x h. n (e.empty x h);
  again = λ front x rest h b. e.again front x rest h (unblocked _ _ m rest b);
  answers = e.answers;
  start = e.start;
}
  where
    unblocked : (More More' : Token → Type 0) → ((t : Token) → More t → More' t) → (rest : List Token)
        → Blocked More' rest → Blocked More rest
    unblocked More More' m [] b = tt
    unblocked More More' m (t ∷ rest) b = λ h. b (m t h)
