-- The faults of a text, each a fact of its own, and which of them is the first.
use Rattle.std.specs.Prelude.{◌≡◌, ℕ, ◌+◌, ◌<◌, ◌≤◌, ◌^◌, true, List, [], ◌∷◌, ◌++◌, length, ◌⊎◌}
use Rattle.sql_reader.specs.declared.tokens.Token.{Token}
use Rattle.sql_reader.specs.declared.faults.Limit.{Limit}
use Rattle.sql_reader.specs.declared.faults.Limit.TheVariants as limits
use Rattle.sql_reader.specs.declared.faults.SqlFault.{SqlFault}
use Rattle.sql_reader.specs.declared.faults.SqlFault.TheVariants as faults
use Rattle.sql_reader.specs.declared.syntax.Select.{Select}
use Rattle.sql_reader.specs.Pieces.{is_control}
use Rattle.sql_reader.specs.Lexing.{IsLexed}
use Rattle.sql_reader.specs.Query.{IsQuery}

-- how many a query may have
abbrev pub most : Limit → ℕ
most limits.Items = 60
most limits.Tables = 10
most limits.Predicates = 40
most limits.GroupBy = 8
most limits.OrderBy = 8

-- how many the query has
abbrev pub count_of : Limit → Select → ℕ
count_of limits.Items select = length select.items
count_of limits.Tables select = length select.from
count_of limits.Predicates select = length select.preds
count_of limits.GroupBy select = length select.group_by
count_of limits.OrderBy select = length select.order_by

-- the query has more than it may
abbrev pub Exceeds : Limit → Select → Type 0
Exceeds what select = most what < count_of what select

-- the query has no more of anything than it may
abbrev pub KeepsLimits : Select → Type 0
KeepsLimits select = (what : Limit) → count_of what select ≤ most what

-- by the grammar the text is the query: its tokens, to its end, are the query's
pub record Spells (text : List ℕ) (select : Select) : Type 0 where
  pub tokens : List Token
  pub lexed : IsLexed text tokens []
  pub query : IsQuery tokens select

-- some query's tokens begin so
abbrev pub CanGoOn : List Token → Type 0
CanGoOn front = (more : List Token) × (select : Select) × IsQuery (front ++ more) select

-- all queries that begin so exceed the limit: what comes next begins an element too many
abbrev pub IsAtLimit : Limit → List Token → Type 0
IsAtLimit what front = (more : List Token) (select : Select) → IsQuery (front ++ more) select → Exceeds what select

-- behind the front comes this token, and at this place
abbrev pub Follows : List Token → List Token → Token → ℕ → Type 0
Follows tokens front token at = (others : List Token) × (tokens ≡ front ++ token ∷ others) × (token.at ≡ at)

-- no query goes on with the token at the place
abbrev pub IsUnexpected : List Token → ℕ → Type 0
IsUnexpected tokens at = (front : List Token) × (token : Token) × Follows tokens front token at
    × (CanGoOn (front ++ token ∷ []) → ⊥)

-- the tokens end, and no query ends there
abbrev pub IsUnfinished : List Token → Type 0
IsUnfinished tokens = (select : Select) → IsQuery tokens select → ⊥

-- an element over its limit begins at the place
abbrev pub IsSurplus : Limit → List Token → ℕ → Type 0
IsSurplus what tokens at = (front : List Token) × (token : Token) × Follows tokens front token at × IsAtLimit what front

-- the byte at the place is so
abbrev pub HasByte : List ℕ → ℕ → (ℕ → Type 0) → Type 0
HasByte text at IsSo = (front : List ℕ) × (byte : ℕ) × (others : List ℕ) × (text ≡ front ++ byte ∷ others)
    × (length front ≡ at) × IsSo byte

-- at the place no token, blank or comment begins
abbrev pub IsStuck : List ℕ → ℕ → Type 0
IsStuck text at = (tokens : List Token) × (rest : List ℕ) × IsLexed text tokens rest × (0 < length rest)
    × (at + length rest ≡ length text)

-- the text has the fault, wherever others stand
abbrev pub HasFault : List ℕ → SqlFault → Type 0
HasFault text faults.TooLong = 2 ^ 16 < length text
HasFault text (faults.NotAscii at) = HasByte text at (λ byte. 128 ≤ byte)
HasFault text (faults.Token at) = HasByte text at (λ byte. is_control byte ≡ true) ⊎ IsStuck text at
HasFault text (faults.Grammar at) =
    (tokens : List Token) × (rest : List ℕ) × IsLexed text tokens rest
    × (IsUnexpected tokens at ⊎ ((rest ≡ []) × (at ≡ length text) × IsUnfinished tokens))
HasFault text (faults.TooMany what at) =
    (tokens : List Token) × (rest : List ℕ) × IsLexed text tokens rest × IsSurplus what tokens at
HasFault text faults.Memory = ⊥

-- where a fault stands; a text that is too long is faulty from its beginning
abbrev pub place : SqlFault → ℕ
place faults.TooLong = 0
place (faults.NotAscii at) = at
place (faults.Token at) = at
place (faults.Grammar at) = at
place (faults.TooMany what at) = at
place faults.Memory = 0

-- which fault counts at one place: the lower
abbrev pub rank : SqlFault → ℕ
rank faults.TooLong = 0
rank (faults.NotAscii at) = 1
rank (faults.Token at) = 2
rank (faults.Grammar at) = 3
rank (faults.TooMany what at) = 4
rank faults.Memory = 5

-- the one fault stands before the other, or counts before it at one place
abbrev pub IsBefore : SqlFault → SqlFault → Type 0
IsBefore f g = (place f < place g) ⊎ ((place f ≡ place g) × (rank f < rank g))

-- the fault is there, and each other comes after it
pub record IsFirst (text : List ℕ) (f : SqlFault) : Type 0 where
  pub has : HasFault text f
  pub first : (g : SqlFault) → HasFault text g → (f ≡ g) ⊎ IsBefore f g

-- the text is the query and has no fault
pub record IsReading (text : List ℕ) (select : Select) : Type 0 where
  pub spells : Spells text select
  pub faultless : (f : SqlFault) → HasFault text f → ⊥
