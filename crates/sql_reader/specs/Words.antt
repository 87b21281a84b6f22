-- Words, functions and symbols by their spelling.
use Rattle.std.specs.Prelude.{ℕ, Bool, ◌==◌, ◌&&◌, if◌then◌else◌, List, [], ◌∷◌, ◌++◌, map, Option, Some, None}
use Rattle.std.specs.Prelude.{codes}
use Rattle.std.specs.Char.{to_ascii_lowercase}
use Rattle.std.specs.Str.{bytes_eq}
use Rattle.sql_reader.specs.declared.tokens.Mark.{Mark}
use Rattle.sql_reader.specs.declared.tokens.Mark.TheVariants as marks
use Rattle.sql_reader.specs.declared.tokens.Function.{Function}
use Rattle.sql_reader.specs.declared.tokens.Function.TheVariants as functions

-- the text is the word, in any case
abbrev pub is_spelled : List ℕ → List ℕ → Bool
is_spelled text word = bytes_eq (map to_ascii_lowercase text) (map to_ascii_lowercase word)

-- what the first of the words that the text is means
abbrev pub meaning : {M : Type 0} → List ℕ → List (List ℕ × M) → Option M
meaning text [] = None
meaning text (word ∷ words) = if is_spelled text word.0 then Some word.1 else meaning text words

-- the words of the grammar
abbrev pub grammar_words : List (List ℕ × Mark)
grammar_words =
    (codes "select", marks.Select) ∷ (codes "from", marks.From) ∷ (codes "where", marks.Where) ∷
    (codes "and", marks.And) ∷ (codes "group", marks.Group) ∷ (codes "by", marks.By) ∷
    (codes "order", marks.Order) ∷ (codes "asc", marks.Asc) ∷ (codes "desc", marks.Desc) ∷
    (codes "as", marks.As) ∷ []

-- the reserved words that no query has
abbrev pub unused_words : List (List ℕ)
unused_words =
    codes "distinct" ∷ codes "having" ∷ codes "limit" ∷ codes "join" ∷ codes "on" ∷ codes "or" ∷ codes "not" ∷
    codes "union" ∷ codes "in" ∷ codes "is" ∷ codes "like" ∷ codes "between" ∷ codes "null" ∷ codes "inner" ∷
    codes "left" ∷ codes "right" ∷ codes "full" ∷ codes "cross" ∷ []

-- the reserved word that a text is, if it is one
unfoldable pub word_of : List ℕ → Option Mark
word_of text = meaning text (grammar_words ++ map (λ word. (word, marks.Reserved)) unused_words)

-- the function that a text names, if it names one
unfoldable pub function_of : List ℕ → Option Function
function_of text =
    if is_spelled text (codes "count") then Some functions.Count
    else (if is_spelled text (codes "sum") then Some functions.Sum
    else (if is_spelled text (codes "min") then Some functions.Min
    else (if is_spelled text (codes "max") then Some functions.Max
    else None)))

-- the symbol of one byte
abbrev pub short_symbol : ℕ → Option Mark
short_symbol b =
    if b == 44 then Some marks.Comma
    else (if b == 46 then Some marks.Dot
    else (if b == 59 then Some marks.Semicolon
    else (if b == 40 then Some marks.Open
    else (if b == 41 then Some marks.Close
    else (if b == 42 then Some marks.Star
    else (if b == 61 then Some marks.Equal
    else (if b == 60 then Some marks.Less
    else (if b == 62 then Some marks.Greater
    else None))))))))

-- the symbol of two bytes
abbrev pub long_symbol : ℕ → ℕ → Option Mark
long_symbol b c =
    if b == 60 && c == 61 then Some marks.LessEqual
    else (if b == 62 && c == 61 then Some marks.GreaterEqual
    else (if b == 60 && c == 62 then Some marks.NotEqual
    else (if b == 33 && c == 61 then Some marks.NotEqual
    else None)))

-- the symbol that these bytes spell, if they spell one: `!=` is `<>`
abbrev pub symbol_of : List ℕ → Option Mark
symbol_of [] = None
symbol_of (b ∷ []) = short_symbol b
symbol_of (b ∷ c ∷ []) = long_symbol b c
symbol_of (b ∷ c ∷ d ∷ bytes) = None
