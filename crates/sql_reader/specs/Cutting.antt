-- The piece at the front of a text and the bytes behind it, found from left to right.
use Rattle.std.specs.Prelude.{◌≡◌, ℕ, ◌^◌, Bool, true, false, ◌==◌, nat_lt, if◌then◌else◌, List, [], ◌∷◌, take, drop}
use Rattle.std.specs.Prelude.{map, Option, Some, None, is_some}
use Rattle.std.specs.Borrow.{Bor}
use Rattle.std.specs.List.{prefix_len}
use Rattle.std.specs.Option.{option_map, option_or}
use Rattle.orca_base.specs.Name.{continues_name}
use Rattle.sql_reader.specs.declared.classes.Class.{Class}
use Rattle.sql_reader.specs.declared.classes.Class.TheVariants as classes
use Rattle.sql_reader.specs.declared.tokens.Kind.{Kind}
use Rattle.sql_reader.specs.declared.pieces.Quoting.{Quoting}
use Rattle.sql_reader.specs.declared.pieces.Quoting.TheVariants as quotings
use Rattle.sql_reader.specs.Bytes.{class_of, is_digit}
use Rattle.sql_reader.specs.Words.{short_symbol, long_symbol}
use Rattle.sql_reader.specs.Pieces.{Piece, blank, comment, name, integer, quoted, sign, in_comment, is_quote}
use Rattle.sql_reader.specs.Pieces.{number_from}
use Rattle.sql_reader.specs.Lexing.{kind_of, shown}

-- a piece and what is behind it
abbrev pub Cut : Type 0
Cut = Option (Piece × List ℕ)

-- a name, and what is behind it
abbrev pub name_cut : List ℕ → Cut
name_cut text = Some (name (take (prefix_len continues_name text) text), drop (prefix_len continues_name text) text)

-- the first byte is so
abbrev pub begins_with : (ℕ → Bool) → List ℕ → Bool
begins_with test [] = false
begins_with test (byte ∷ bytes) = test byte

-- the number that digits spell, where it is below 2 ^ 63
abbrev pub magnitude_of : List ℕ → Option ℕ
magnitude_of digits = if nat_lt (number_from 0 digits) (2 ^ 63) then Some (number_from 0 digits) else None

-- digits, and the bytes behind them
abbrev pub integer_cut : Bool → List ℕ → List ℕ → Cut
integer_cut negative digits rest =
    if nat_lt (number_from 0 digits) (2 ^ 63) then
    (if begins_with continues_name rest then None else Some (integer negative digits, rest)) else None

-- an integer from its first digit on
abbrev pub digits_cut : Bool → List ℕ → Cut
digits_cut negative text = integer_cut negative (take (prefix_len is_digit text) text)
    (drop (prefix_len is_digit text) text)

-- a comment behind its two minuses
abbrev pub comment_cut : List ℕ → Cut
comment_cut body = Some (comment (take (prefix_len in_comment body) body), drop (prefix_len in_comment body) body)

-- what stands behind a minus
abbrev pub minus_cut : List ℕ → Cut
minus_cut [] = None
minus_cut (byte ∷ bytes) = if byte == 45 then comment_cut bytes else
    (if is_digit byte then digits_cut true (byte ∷ bytes) else None)

-- one byte more of a quoted text
abbrev pub with_byte : ℕ → Option (List ℕ × List ℕ) → Option (List ℕ × List ℕ)
with_byte byte None = None
with_byte byte (Some p) = Some (byte ∷ p.0, p.1)

-- what a byte does to a quoted text, behind a quote that may have closed it or not
abbrev pub quoting_of : Bool → ℕ → Quoting
quoting_of false byte = if is_quote byte then quotings.MayClose else quotings.Part byte
quoting_of true byte = if is_quote byte then quotings.Part byte else quotings.Closed

-- a quoted text from a byte on: what follows it inside the text, what follows it as a quote, and all from it on
abbrev pub quoted_by : Quoting → Option (List ℕ × List ℕ) → Option (List ℕ × List ℕ) → List ℕ → Option (List ℕ × List ℕ)
quoted_by (quotings.Part byte) inside behind all = with_byte byte inside
quoted_by quotings.MayClose inside behind all = behind
quoted_by quotings.Closed inside behind all = Some ([], all)

-- the text up to its closing quote, and what is behind that; first, whether a quote that may close it was just passed
abbrev pub quoted_from : Bool → List ℕ → Option (List ℕ × List ℕ)
quoted_from false [] = None
quoted_from true [] = Some ([], [])
quoted_from after (byte ∷ bytes) =
    quoted_by (quoting_of after byte) (quoted_from false bytes) (quoted_from true bytes) (byte ∷ bytes)

-- the text as a piece
abbrev pub as_quoted : List ℕ × List ℕ → Piece × List ℕ
as_quoted p = (quoted p.0, p.1)

-- the text as a token has it
abbrev pub shown_text : List ℕ × List ℕ → List ℕ × List ℕ
shown_text p = (map shown p.0, p.1)

-- what was found is the text up to its closing quote, and what is behind that
abbrev pub IsQuoted : Option (List ℕ × Bor (List ℕ)) → List ℕ → Type 0
IsQuoted found bytes = option_map (λ p. (p.0, p.1.now)) found ≡ option_map shown_text (quoted_from false bytes)

-- a quoted text behind its opening quote
abbrev pub quoted_cut : List ℕ → Cut
quoted_cut bytes = option_map as_quoted (quoted_from false bytes)

-- a symbol of one byte
abbrev pub short_cut : ℕ → List ℕ → Cut
short_cut b rest = if is_some (short_symbol b) then Some (sign (b ∷ []), rest) else None

-- a symbol of two bytes
abbrev pub long_cut : ℕ → ℕ → List ℕ → Cut
long_cut b c rest = if is_some (long_symbol b c) then Some (sign (b ∷ c ∷ []), rest) else None

-- a symbol, of two bytes where there is one
abbrev pub sign_cut : List ℕ → Cut
sign_cut [] = None
sign_cut (b ∷ []) = short_cut b []
sign_cut (b ∷ c ∷ rest) = option_or (long_cut b c rest) (short_cut b (c ∷ rest))

-- a piece that begins with a byte of this class
abbrev pub cut_by : Class → ℕ → List ℕ → Cut
cut_by classes.Blank byte bytes = Some (blank byte, bytes)
cut_by classes.Letter byte bytes = name_cut (byte ∷ bytes)
cut_by classes.Digit byte bytes = digits_cut false (byte ∷ bytes)
cut_by classes.Quote byte bytes = quoted_cut bytes
cut_by classes.Minus byte bytes = minus_cut bytes
cut_by classes.Sign byte bytes = sign_cut (byte ∷ bytes)
cut_by classes.Bad byte bytes = None

-- the piece at the front
unfoldable pub piece_cut : List ℕ → Cut
piece_cut [] = None
piece_cut (byte ∷ bytes) = cut_by (class_of byte) byte bytes

-- what a found piece spells, and what is behind it
abbrev pub kind_cut : Piece × List ℕ → Option Kind × List ℕ
kind_cut p = (kind_of p.0, p.1)

-- what was found is what the piece spells, and what is behind it
abbrev pub IsPiece : Option (Option Kind × Bor (List ℕ)) → Cut → Type 0
IsPiece found cut = option_map (λ p. (p.0, p.1.now)) found ≡ option_map kind_cut cut
