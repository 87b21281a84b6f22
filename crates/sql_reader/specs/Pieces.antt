-- The pieces of a text: blanks, comments, and what spells one token.
use Rattle.std.specs.Prelude.{◌≡◌, ℕ, ◌+◌, ◌-◌, ◌*◌, ◌^◌, ◌<◌, Bool, true, false, ◌==◌, ◌&&◌, not, nat_lt}
use Rattle.std.specs.Prelude.{if◌then◌else◌, List, [], ◌∷◌, ◌++◌, length, IsSome, is_some}
use Rattle.std.specs.List.{list_all}
use Rattle.orca_base.specs.Name.{continues_name, has_name_form}
use Rattle.sql_reader.specs.Bytes.{is_blank, is_digit}
use Rattle.sql_reader.specs.Words.{symbol_of}

-- what a text is cut into
pub data Piece : Type 0 where
  blank : ℕ → Piece
  comment : List ℕ → Piece
  name : List ℕ → Piece
  -- whether it has a sign, and its digits
  integer : Bool → List ℕ → Piece
  -- the text that it stands for
  quoted : List ℕ → Piece
  sign : List ℕ → Piece

-- a control byte other than tab, line feed and carriage return
abbrev pub is_control : ℕ → Bool
is_control byte = if nat_lt byte 32 then not (byte == 9) && not (byte == 10) && not (byte == 13) else byte == 127

-- neither a line feed nor a byte that may stand nowhere
unfoldable pub in_comment : ℕ → Bool
in_comment byte = not (byte == 10) && not (is_control byte) && nat_lt byte 128

-- the single quote
abbrev pub is_quote : ℕ → Bool
is_quote byte = byte == 39

-- each quote written twice
abbrev pub doubled : List ℕ → List ℕ
doubled [] = []
doubled (byte ∷ text) = if is_quote byte then 39 ∷ 39 ∷ doubled text else byte ∷ doubled text

-- the bytes of a piece
abbrev pub spelling : Piece → List ℕ
spelling (blank byte) = byte ∷ []
spelling (comment body) = 45 ∷ 45 ∷ body
spelling (name text) = text
spelling (integer true digits) = 45 ∷ digits
spelling (integer false digits) = digits
spelling (quoted text) = 39 ∷ (doubled text ++ 39 ∷ [])
spelling (sign symbol) = symbol

-- the number that digits spell behind others that spell this number
abbrev pub number_from : ℕ → List ℕ → ℕ
number_from number [] = number
number_from number (digit ∷ digits) = number_from (number * 10 + (digit - 48)) digits

-- it has the form of its kind
abbrev pub Fits : Piece → Type 0
Fits (blank byte) = is_blank byte ≡ true
Fits (comment body) = list_all in_comment body ≡ true
Fits (name text) = has_name_form text ≡ true
Fits (integer negative digits) =
    (0 < length digits) × (list_all is_digit digits ≡ true) × (number_from 0 digits < 2 ^ 63)
Fits (quoted text) = Unit {0}
Fits (sign symbol) = IsSome (symbol_of symbol)

-- no such byte comes next
abbrev pub EndsPiece : (ℕ → Bool) → List ℕ → Type 0
EndsPiece test [] = Unit {0}
EndsPiece test (byte ∷ rest) = test byte ≡ false

-- with the next byte it isn't a piece of its kind, and the rest may stand behind it
abbrev pub Stands : Piece → List ℕ → Type 0
Stands (blank byte) rest = Unit {0}
Stands (comment body) rest = EndsPiece in_comment rest
Stands (name text) rest = EndsPiece continues_name rest
Stands (integer negative digits) rest = EndsPiece continues_name rest
Stands (quoted text) rest = EndsPiece is_quote rest
Stands (sign symbol) rest = EndsPiece (λ byte. is_some (symbol_of (symbol ++ byte ∷ []))) rest

-- the bytes begin with the piece, and this is the rest
pub record BeginsWithPiece (bytes : List ℕ) (piece : Piece) (rest : List ℕ) : Type 0 where
  pub fits : Fits piece
  pub stands : Stands piece rest
  pub whole : bytes ≡ spelling piece ++ rest

-- the bytes are these pieces, one after the other, and then the rest
abbrev pub Are : List Piece → List ℕ → List ℕ → Type 0
Are [] bytes rest = bytes ≡ rest
Are (piece ∷ pieces) bytes rest = (more : List ℕ) × BeginsWithPiece bytes piece more × Are pieces more rest

-- the text is these pieces, up to a rest at which no piece begins
pub record IsCut (text : List ℕ) (pieces : List Piece) (rest : List ℕ) : Type 0 where
  pub are : Are pieces text rest
  pub no_more : (piece : Piece) (more : List ℕ) → BeginsWithPiece rest piece more → ⊥
