-- What can stand in a query that was read: names with the form of a name, texts of plain bytes, and numbers in range.
use Rattle.std.proofs.Common.{◌≡◌, ℕ, suc, ◌+◌, ◌^◌, ◌<◌, Bool, true, false, cond, List, [], ◌∷◌, ◌++◌, map, length}
use Rattle.std.proofs.Common.{Option, Some, None, negsuc, inl, refl, sym, subst, ◌∙◌, append_assoc, arith, zero}
use Rattle.std.proofs.Common.{eqb-true}
use Rattle.std.proofs.lemmas.Bool.{ltb-false, and_parts}
use Rattle.std.proofs.lemmas.Int.{ints}
use Rattle.std.specs.Prelude.{◌&&◌, not, nat_lt}
use Rattle.std.specs.List.{list_all}
use Rattle.std.specs.Option.{option_map}
use Rattle.std.proofs.lemmas.List.Folds.{list_all-append}
use Rattle.orca_base.specs.Name.{has_name_form}
use Rattle.sql_reader.specs.declared.tokens.Mark.{Mark}
use Rattle.sql_reader.specs.declared.tokens.Function.{Function}
use Rattle.sql_reader.specs.declared.tokens.Kind.{Kind}
use Rattle.sql_reader.specs.declared.tokens.Kind.TheVariants as kinds
use Rattle.sql_reader.specs.declared.tokens.Token.{Token}
use Rattle.sql_reader.specs.declared.faults.SqlFault.TheVariants as faults
use Rattle.sql_reader.specs.declared.syntax.Select.{Select}
use Rattle.sql_reader.specs.Words.{word_of, function_of, symbol_of}
use Rattle.sql_reader.specs.Pieces.{Piece, blank, comment, name, integer, quoted, sign, is_control, is_quote, doubled}
use Rattle.sql_reader.specs.Pieces.{spelling, number_from, Fits, Are}
use Rattle.sql_reader.specs.Lexing.{shown, named_kind, signed, kind_of, function_kind, called, is_open, with_kind}
use Rattle.sql_reader.specs.Lexing.{tokens_of}
use Rattle.sql_reader.specs.Faults.{HasFault, IsReading}
use Rattle.sql_reader.specs.Spellable.{is_plain, IsSpellableName, IsSpellableNumber}

abbrev pub IsGoodKind : Kind → Type 0
IsGoodKind (kinds.Mark mark) = Unit {0}
IsGoodKind (kinds.Name text) = IsSpellableName text
IsGoodKind (kinds.Function function) = Unit {0}
IsGoodKind (kinds.Integer number) = IsSpellableNumber number
IsGoodKind (kinds.Quoted text) = list_all is_plain text ≡ true

abbrev pub AreGood : List Token → Type 0
AreGood [] = Unit {0}
AreGood (t ∷ tokens) = IsGoodKind t.kind × AreGood tokens

pub good_front : (a b : List Token) → AreGood (a ++ b) → AreGood a
good_front [] b h = tt
good_front (t ∷ a) b h = (h.0, good_front a b h.1)

pub good_back : (a b : List Token) → AreGood (a ++ b) → AreGood b
good_back [] b h = h
good_back (t ∷ a) b h = good_back a b h.1

-- ---- bytes

pub shown_plain : (text : List ℕ) → list_all is_plain text ≡ true → map shown text ≡ text
shown_plain [] h = refl
shown_plain (b ∷ text) h =
    let p = and_parts (is_plain b) (list_all is_plain text) h in
    let q = and_parts (nat_lt b 128) (not (is_control b)) p.0 in
    rw (q.0, shown_plain text p.1) refl

plain_by : (b : ℕ) (c : Bool) (text front : List ℕ) → is_quote b ≡ c
    → list_all is_plain (cond c (39 ∷ 39 ∷ text) (b ∷ text)) ≡ true
    → (list_all is_plain front ≡ list_all is_plain text) → (is_plain b ≡ true) × (list_all is_plain text ≡ true)
plain_by b true text front e h k = let p = and_parts (is_plain 39) (list_all is_plain (39 ∷ text)) h in let q =
    and_parts (is_plain 39) (list_all is_plain text) p.1 in (let s : b ≡ 39 = eqb-true b 39 e in rw s refl, q.1)
plain_by b false text front e h k = and_parts (is_plain b) (list_all is_plain text) h

pub doubled_plain : (text : List ℕ) → list_all is_plain (doubled text) ≡ true → list_all is_plain text ≡ true
doubled_plain [] h = refl
doubled_plain (b ∷ text) h =
    let p = plain_by b (is_quote b) (doubled text) (doubled text) refl h refl in
    rw (p.0, doubled_plain text p.1) refl

-- ---- pieces

IsGood : Option Kind → Type 0
IsGood None = Unit {0}
IsGood (Some kind) = IsGoodKind kind

named_good : (text : List ℕ) (word : Option Mark) → word_of text ≡ word → has_name_form text ≡ true
    → list_all is_plain text ≡ true → IsGoodKind (named_kind text word)
named_good text (Some word) e f p = tt
named_good text None e f p = subst IsSpellableName (sym (shown_plain text p)) (f, e, p)

signed_good : (negative : Bool) (n : ℕ) → n < 2 ^ 63 → IsSpellableNumber (signed negative n)
signed_good false n h = h
signed_good true zero h = h
signed_good true (suc n) h = let e : signed true (suc n) ≡ negsuc n = omega (arith, ints) in
    subst IsSpellableNumber (sym e) h

symbol_good : (o : Option Mark) → IsGood (option_map kinds.Mark o)
unfolding IsGood
symbol_good None = tt
symbol_good (Some mark) = tt

piece_good : (piece : Piece) → Fits piece → list_all is_plain (spelling piece) ≡ true → IsGood (kind_of piece)
unfolding IsGood
piece_good (blank b) f p = tt
piece_good (comment body) f p = tt
piece_good (name text) f p = named_good text (word_of text) refl f p
piece_good (integer negative digits) f p = signed_good negative (number_from 0 digits) f.2
piece_good (quoted text) f p =
    let inside = and_parts (is_plain 39) (list_all is_plain (doubled text ++ 39 ∷ [])) p in
    let parts = and_parts (list_all is_plain (doubled text)) (list_all is_plain (39 ∷ []))
    (sym (list_all-append is_plain (doubled text) (39 ∷ [])) ∙ inside.1) in
    let plain = doubled_plain text parts.0 in
    rw (shown_plain text plain) plain
piece_good (sign symbol) f p = symbol_good (symbol_of symbol)

function_good : (text : List ℕ) (function : Option Function) → IsSpellableName text
    → IsGoodKind (function_kind text function)
function_good text None g = g
function_good text (Some function) g = tt

called_good : (kind : Kind) → IsGoodKind kind → IsGoodKind (called kind)
called_good (kinds.Mark mark) g = g
called_good (kinds.Name text) g = function_good text (function_of text) g
called_good (kinds.Function function) g = g
called_good (kinds.Integer number) g = g
called_good (kinds.Quoted text) g = g

chosen_good : (c : Bool) (kind : Kind) → IsGoodKind kind → IsGoodKind (cond c (called kind) kind)
chosen_good true kind g = called_good kind g
chosen_good false kind g = g

with_good : (at : ℕ) (o : Option Kind) (tokens : List Token) → IsGood o → AreGood tokens
    → AreGood (with_kind at o tokens)
unfolding IsGood
with_good at None tokens g h = h
with_good at (Some kind) [] g h = (g, tt)
with_good at (Some kind) (t ∷ tokens) g h = (chosen_good (is_open t.kind) kind g, h)

pieces_good : (at : ℕ) (pieces : List Piece) (text rest : List ℕ) → Are pieces text rest
    → list_all is_plain text ≡ true → AreGood (tokens_of at pieces)
pieces_good at [] text rest a p = tt
pieces_good at (piece ∷ pieces) text rest a p =
    let whole : list_all is_plain (spelling piece ++ a.0) ≡ true = rw a.1.whole at p in
    let parts = and_parts (list_all is_plain (spelling piece)) (list_all is_plain a.0)
    (sym (list_all-append is_plain (spelling piece) a.0) ∙ whole) in
    with_good at (kind_of piece) (tokens_of (at + length (spelling piece)) pieces) (piece_good piece a.1.fits parts.0)
    (pieces_good (at + length (spelling piece)) pieces a.0 rest a.2 parts.1)

-- ---- a text without a fault

byte_plain : (text front bytes : List ℕ) (b : ℕ) → text ≡ front ++ b ∷ bytes → ((f : _) → HasFault text f → ⊥)
    → is_plain b ≡ true
byte_plain text front bytes b e none = by (nat_lt b 128) (is_control b) refl refl
  where
    by : (a c : Bool) → nat_lt b 128 ≡ a → is_control b ≡ c → (a && not c) ≡ true
    by true false h k = refl
    by true true h k = absurd (none (faults.Token (length front)) (inl (front, b, bytes, e, refl, k)))
    by false c h k = absurd (none (faults.NotAscii (length front)) (front, b, bytes, e, refl, ltb-false _ _ h))

pub all_plain : (text front bytes : List ℕ) → text ≡ front ++ bytes → ((f : _) → HasFault text f → ⊥)
    → list_all is_plain bytes ≡ true
all_plain text front [] e none = refl
all_plain text front (b ∷ bytes) e none =
    rw (
      byte_plain text front bytes b e none,
      all_plain text (front ++ b ∷ []) bytes
          (e ∙ sym (append_assoc front (b ∷ []) bytes)) none,
    ) refl

-- the tokens of a reading are good
pub tokens_good : (text : List ℕ) (s : Select) (r : IsReading text s) → AreGood r.spells.tokens
tokens_good text s r = subst AreGood (sym r.spells.lexed.tokens_are)
    (pieces_good 0 r.spells.lexed.pieces text [] r.spells.lexed.cut.are (all_plain text [] text refl r.faultless))
