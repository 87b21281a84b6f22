-- The text of a catalogue is one line.
use Rattle.std.proofs.Common.{◌≡◌, ◌≢◌, ℕ, suc, zero, ◌+◌, ◌/◌, ◌%◌, ◌==◌, ◌&&◌, ◌||◌, ℤ, pos, negsuc, Bool, true, false, not}
use Rattle.std.proofs.Common.{cond, List, [], ◌∷◌, ◌++◌, map, nat_lt, Option, None, Some, codes, refl, sym, ap, subst, ◌∙◌, arith}
use Rattle.std.specs.Char.{digit_char}
use Rattle.std.specs.Fmt.{decimal, digits, digits_onto, digit_glyph, signed_decimal}
use Rattle.std.specs.List.{list_all}
use Rattle.std.proofs.lemmas.Bool.{false≢true, and_parts}
use Rattle.std.proofs.lemmas.Bool.Decides.{nat_tests}
use Rattle.std.proofs.lemmas.List.Folds.{list_all-append}
use Rattle.json.specs.Json as json
use Rattle.json.specs.Json.{Json, Members, member, no_members}
use Rattle.json.specs.Print.{print_from, token_text, separator, ends, escape, escape_byte, escape_letter, quoted, begins}
use Rattle.json.specs.Token.{Token, begin_object, end_object, begin_array, end_array, key, string, number, boolean, null, bad}
use Rattle.json.specs.Tree.{json_tokens, items_tokens, members_tokens}
use Rattle.query_core.specs.declared.histogram.Bucket.{Bucket}
use Rattle.query_core.specs.declared.histogram.Histogram.{Histogram}
use Rattle.query_core.specs.declared.catalog.ColumnInfo.{ColumnInfo}
use Rattle.query_core.specs.declared.catalog.Placing.{Placing}
use Rattle.query_core.specs.declared.catalog.Placing.TheVariants.{Hashed, Random, Replicated}
use Rattle.query_core.specs.declared.catalog.TableInfo.{TableInfo}
use Rattle.query_core.specs.declared.catalog.Catalog.{Catalog}
use Rattle.catalog_json.specs.declared.version.CatalogVersion.{CatalogVersion}
use Rattle.catalog_text.specs.Text.{bucket_json, histogram_member, items_of, list_json, name_at, column_json}
use Rattle.catalog_text.specs.Text.{places_json, placing_json, indexes_member, table_json, version_number, catalog_json}
use Rattle.catalog_text.specs.Text.{catalog_text}
use Rattle.dump_replay.specs.Lines.{is_one_line}
use Rattle.dump_replay.proofs.Cuts.{IsOneLine, both_one_line}

-- ---- numbers

-- the byte is no newline
abbrev IsOther : ℕ → Type 0
IsOther byte = byte ≢ 10

other_byte : (byte : ℕ) → IsOther byte → not (byte == 10) ≡ true
other_byte byte other = grind (arith, nat_tests)

one_byte : (byte : ℕ) → IsOther byte → IsOneLine (byte ∷ [])
one_byte byte other = rw (other_byte byte other) refl

-- a digit is no newline
a_digit : (d : ℕ) → not (digit_glyph false d == 10) ≡ true
a_digit d = by_test (nat_lt d 10)
  where
    by_test : (b : Bool) → not (cond b (48 + d) (87 + d) == 10) ≡ true
    by_test true = other_byte (48 + d) (λ is. absurd (omega (arith, is)))
    by_test false = other_byte (87 + d) (λ is. absurd (omega (arith, is)))

digits_one_line : (k n : ℕ) (behind : List ℕ) → IsOneLine behind → IsOneLine (digits_onto k 10 false n behind)
digits_one_line zero n behind is = is
digits_one_line (suc k) n behind is =
    by_test (n / 10 == 0) (digits_one_line k (n / 10) (digit_glyph false (n % 10) ∷ behind) next)
  where
    next : IsOneLine (digit_glyph false (n % 10) ∷ behind)
    next = rw (a_digit (n % 10)) is

    by_test : (b : Bool) → IsOneLine (digits_onto k 10 false (n / 10) (digit_glyph false (n % 10) ∷ behind))
        → IsOneLine (cond b (digit_glyph false (n % 10) ∷ behind)
        (digits_onto k 10 false (n / 10) (digit_glyph false (n % 10) ∷ behind)))
    by_test true more = next
    by_test false more = more

pub decimal_one_line : (n : ℕ) → IsOneLine (decimal n)
unfolding digits
decimal_one_line n = digits_one_line 64 n [] refl

signed_one_line : (z : ℤ) → IsOneLine (signed_decimal z)
signed_one_line (pos n) = decimal_one_line n
signed_one_line (negsuc n) = decimal_one_line (suc n)

-- ---- strings

-- the letter of a short escape is no newline
no_such_letter : (x : ℕ) → IsOther (escape_letter x)
no_such_letter x = by_first ((x == 34) || (x == 92)) refl
  where
    others : (a b c d e : Bool) → IsOther (cond a 98 (cond b 102 (cond c 110 (cond d 114 (cond e 116 0)))))
    others true b c d e = λ is. absurd (omega (arith, is))
    others false true c d e = λ is. absurd (omega (arith, is))
    others false false true d e = λ is. absurd (omega (arith, is))
    others false false false true e = λ is. absurd (omega (arith, is))
    others false false false false true = λ is. absurd (omega (arith, is))
    others false false false false false = λ is. absurd (omega (arith, is))

    by_first : (b : Bool) → ((x == 34) || (x == 92)) ≡ b
        → IsOther (cond b x (cond (x == 8) 98 (cond (x == 12) 102 (cond (x == 10) 110 (cond (x == 13) 114
        (cond (x == 9) 116 0))))))
    by_first true here = λ is. absurd (false≢true (subst (λ (y : ℕ). ((y == 34) || (y == 92)) ≡ true) is here))
    by_first false here = others (x == 8) (x == 12) (x == 10) (x == 13) (x == 9)

byte_one_line : (x : ℕ) → IsOneLine (escape_byte x)
unfolding escape_byte
byte_one_line x = by_tests (nat_lt 0 (escape_letter x)) (nat_lt x 32) refl
  where
    glyph : (d : ℕ) → not (digit_char d == 10) ≡ true
    glyph d = a_digit d

    by_tests : (short low : Bool) → nat_lt x 32 ≡ low
        → IsOneLine (cond short (92 ∷ escape_letter x ∷ [])
        (cond low (92 ∷ 117 ∷ 48 ∷ 48 ∷ digit_char (x / 16) ∷ digit_char (x % 16) ∷ []) (x ∷ [])))
    by_tests true low is = one_byte (escape_letter x) (no_such_letter x)
    by_tests false true is = rw (glyph (x / 16), glyph (x % 16)) refl
    by_tests false false is = one_byte x (λ feed. absurd (false≢true (sym is ∙ ap (λ (y : ℕ). nat_lt y 32) feed)))

escape_one_line : (text : List ℕ) → IsOneLine (escape text)
escape_one_line [] = refl
escape_one_line (x ∷ text) = both_one_line (escape_byte x) (escape text) (byte_one_line x) (escape_one_line text)

quoted_one_line : (text : List ℕ) → IsOneLine (quoted text)
quoted_one_line text = both_one_line (escape text) (34 ∷ []) (escape_one_line text) refl

-- ---- tokens

-- a number's text is one line
abbrev is_plain : Token → Bool
is_plain begin_object = true
is_plain end_object = true
is_plain begin_array = true
is_plain end_array = true
is_plain (key s) = true
is_plain (string s) = true
is_plain (number s) = is_one_line s
is_plain (boolean b) = true
is_plain null = true
is_plain bad = true

token_one_line : (t : Token) → is_plain t ≡ true → IsOneLine (token_text t)
token_one_line begin_object plain = refl
token_one_line end_object plain = refl
token_one_line begin_array plain = refl
token_one_line end_array plain = refl
token_one_line (key s) plain = both_one_line (quoted s) (58 ∷ []) (quoted_one_line s) refl
token_one_line (string s) plain = quoted_one_line s
token_one_line (number s) plain = plain
token_one_line (boolean true) plain = refl
token_one_line (boolean false) plain = refl
token_one_line null plain = refl
token_one_line bad plain = refl

sign_one_line : (b : Bool) → IsOneLine (cond b (44 ∷ []) [])
sign_one_line true = refl
sign_one_line false = refl

printed_one_line : (after : Bool) (ts : List Token) → list_all is_plain ts ≡ true → IsOneLine (print_from after ts)
unfolding print_from
printed_one_line after [] plain = refl
printed_one_line after (t ∷ ts) plain =
    let parts = and_parts (is_plain t) (list_all is_plain ts) plain in
    both_one_line (separator after t) (token_text t ++ print_from (ends t) ts) (sign_one_line (after && begins t))
    (both_one_line (token_text t) (print_from (ends t) ts) (token_one_line t parts.0)
    (printed_one_line (ends t) ts parts.1))

-- ---- values

-- each number of the value is one line
record Plain (j : Json) : Type 0 where
  pub all : list_all is_plain (json_tokens j) ≡ true

-- each number of the members is one line
record MembersPlain (ms : Members) : Type 0 where
  pub all : list_all is_plain (members_tokens ms) ≡ true

both_plain : (front back : List Token) → list_all is_plain front ≡ true → list_all is_plain back ≡ true
    → list_all is_plain (front ++ back) ≡ true
both_plain front back is_front is_back = rw (list_all-append is_plain front back, is_front, is_back) refl

number_plain : (s : List ℕ) → IsOneLine s → Plain (json.number s)
number_plain s is = record { all = rw is refl }

string_plain : (s : List ℕ) → Plain (json.string s)
string_plain s = record { all = refl }

no_more : MembersPlain no_members
no_more = record { all = refl }

-- one member more
with_member : {j : Json} {ms : Members} (name : List ℕ) → Plain j → MembersPlain ms → MembersPlain (member name j ms)
with_member {j} {ms} name is_j is_ms = record { all = both_plain (json_tokens j) (members_tokens ms) is_j.all is_ms.all }

object_plain : {ms : Members} → MembersPlain ms → Plain (json.object ms)
object_plain {ms} is = record { all = is.all }

items_plain : {X : Type 0} (written : X → Json) (xs : List X) → ((x : X) → Plain (written x))
    → list_all is_plain (items_tokens (items_of (map written xs))) ≡ true
items_plain written [] plain = refl
items_plain written (x ∷ xs) plain =
    both_plain (json_tokens (written x)) (items_tokens (items_of (map written xs))) (plain x).all
    (items_plain written xs plain)

list_plain : {X : Type 0} (written : X → Json) (xs : List X) → ((x : X) → Plain (written x))
    → Plain (list_json written xs)
list_plain written xs plain = record { all = items_plain written xs plain }

decimal_plain : (n : ℕ) → Plain (json.number (decimal n))
decimal_plain n = number_plain (decimal n) (decimal_one_line n)

signed_plain : (z : ℤ) → Plain (json.number (signed_decimal z))
signed_plain z = number_plain (signed_decimal z) (signed_one_line z)

-- ---- catalogues

bucket_plain : (b : Bucket) → Plain (bucket_json b)
bucket_plain b = object_plain (with_member (codes "upto") (signed_plain b.upto)
    (with_member (codes "rows") (decimal_plain b.rows) no_more))

histogram_plain : (histogram : Option Histogram) → MembersPlain (histogram_member histogram)
histogram_plain None = no_more
histogram_plain (Some h) = with_member (codes "histogram") (object_plain (with_member (codes "low") (signed_plain h.low)
    (with_member (codes "buckets") (list_plain bucket_json h.buckets bucket_plain) no_more))) no_more

column_plain : (c : ColumnInfo) → Plain (column_json c)
column_plain c = object_plain (with_member (codes "name") (string_plain c.name)
    (with_member (codes "ndv") (decimal_plain c.ndv) (histogram_plain c.histogram)))

places_plain : (columns : List ColumnInfo) (places : List ℕ) → Plain (places_json columns places)
places_plain columns places =
    list_plain (λ place. json.string (name_at columns place)) places (λ place. string_plain (name_at columns place))

placing_plain : (columns : List ColumnInfo) (placing : Placing) → Plain (placing_json columns placing)
placing_plain columns (Hashed places) = places_plain columns places
placing_plain columns Random = string_plain (codes "random")
placing_plain columns Replicated = string_plain (codes "replicated")

indexes_plain : (columns : List ColumnInfo) (indexes : List (List ℕ)) → MembersPlain (indexes_member columns indexes)
indexes_plain columns [] = no_more
indexes_plain columns (index ∷ indexes) = with_member (codes "indexes")
    (list_plain (places_json columns) (index ∷ indexes) (places_plain columns)) no_more

table_plain : (t : TableInfo) → Plain (table_json t)
table_plain t = object_plain (with_member (codes "name") (string_plain t.name)
    (with_member (codes "rows") (decimal_plain t.rows)
    (with_member (codes "distribution") (placing_plain t.columns t.placing)
    (with_member (codes "columns") (list_plain column_json t.columns column_plain)
    (indexes_plain t.columns t.indexes)))))

catalog_plain : (version : CatalogVersion) (c : Catalog) → Plain (catalog_json version c)
catalog_plain version c = object_plain (with_member (codes "version") (decimal_plain (version_number version))
    (with_member (codes "segments") (decimal_plain c.segments)
    (with_member (codes "tables") (list_plain table_json c.tables table_plain) no_more)))

pub catalog_one_line : (version : CatalogVersion) (c : Catalog) → IsOneLine (catalog_text version c)
catalog_one_line version c =
    printed_one_line false (json_tokens (catalog_json version c)) (catalog_plain version c).all
