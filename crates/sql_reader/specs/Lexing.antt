-- The tokens of a text.
use Rattle.std.specs.Prelude.{◌≡◌, ℕ, ◌+◌, Bool, true, false, nat_lt, if◌then◌else◌, ℤ, pos, ◌-ℤ◌, List, [], ◌∷◌, map}
use Rattle.std.specs.Prelude.{length, Option, Some, None}
use Rattle.std.specs.Option.{option_map}
use Rattle.sql_reader.specs.declared.tokens.Mark.{Mark}
use Rattle.sql_reader.specs.declared.tokens.Mark.TheVariants as marks
use Rattle.sql_reader.specs.declared.tokens.Function.{Function}
use Rattle.sql_reader.specs.declared.tokens.Kind.{Kind}
use Rattle.sql_reader.specs.declared.tokens.Kind.TheVariants as kinds
use Rattle.sql_reader.specs.declared.tokens.Token.{Token}
use Rattle.sql_reader.specs.Words.{word_of, function_of, symbol_of}
use Rattle.sql_reader.specs.Pieces.{Piece, blank, comment, name, integer, quoted, sign, spelling, number_from, IsCut}

-- the byte, where it is ASCII; another byte makes the text faulty, and stands as `?` until that is told
abbrev pub shown : ℕ → ℕ
shown byte = if nat_lt byte 128 then byte else 63

-- a reserved word, or a name
abbrev pub named_kind : List ℕ → Option Mark → Kind
named_kind text None = kinds.Name (map shown text)
named_kind text (Some word) = kinds.Mark word

-- the integer with this magnitude
abbrev pub signed : Bool → ℕ → ℤ
signed true n = pos 0 -ℤ pos n
signed false n = pos n

-- what token a piece spells, if it spells one
abbrev pub kind_of : Piece → Option Kind
kind_of (blank byte) = None
kind_of (comment body) = None
kind_of (name text) = Some (named_kind text (word_of text))
kind_of (integer negative digits) = Some (kinds.Integer (signed negative (number_from 0 digits)))
kind_of (quoted text) = Some (kinds.Quoted (map shown text))
kind_of (sign symbol) = option_map kinds.Mark (symbol_of symbol)

-- the function that a text names, or else the name
abbrev pub function_kind : List ℕ → Option Function → Kind
function_kind text None = kinds.Name text
function_kind text (Some function) = kinds.Function function

-- what a token is where `(` is the next: the name of a function is the function
abbrev pub called : Kind → Kind
called (kinds.Name text) = function_kind text (function_of text)
called (kinds.Mark mark) = kinds.Mark mark
called (kinds.Function function) = kinds.Function function
called (kinds.Integer number) = kinds.Integer number
called (kinds.Quoted text) = kinds.Quoted text

-- the mark is `(`
abbrev pub is_open_mark : Mark → Bool
is_open_mark marks.Open = true
is_open_mark _ = false

-- the token is `(`
abbrev pub is_open : Kind → Bool
is_open (kinds.Mark mark) = is_open_mark mark
is_open (kinds.Name text) = false
is_open (kinds.Function function) = false
is_open (kinds.Integer number) = false
is_open (kinds.Quoted text) = false

-- a kind with these tokens behind it
abbrev pub before : Kind → List Token → Kind
before kind [] = kind
before kind (next ∷ tokens) = if is_open next.kind then called kind else kind

-- what a piece at the offset spells, and then the tokens
abbrev pub with_kind : ℕ → Option Kind → List Token → List Token
with_kind at None tokens = tokens
with_kind at (Some kind) tokens = record { at = at; kind = before kind tokens } ∷ tokens

-- the tokens of pieces of which the first begins at the offset
abbrev pub tokens_of : ℕ → List Piece → List Token
tokens_of at [] = []
tokens_of at (piece ∷ pieces) = with_kind at (kind_of piece) (tokens_of (at + length (spelling piece)) pieces)

-- up to the rest, at which no token, blank or comment begins, the text has these tokens
pub record IsLexed (text : List ℕ) (tokens : List Token) (rest : List ℕ) : Type 0 where
  pub pieces : List Piece
  pub cut : IsCut text pieces rest
  pub tokens_are : tokens ≡ tokens_of 0 pieces
