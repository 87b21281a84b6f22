-- How the bytes of a line are read.
use Rattle.std.specs.Prelude.{ℕ, Bool, not, true, false, ◌≡◌, ◌<◌, ◌^◌, ◌&&◌, ◌||◌, ◌==◌, List, [], ◌∷◌, ◌++◌, codes}
use Rattle.std.specs.Prelude.{decimal}
use Rattle.std.specs.Prelude.{length, slice_index}
use Rattle.std.specs.Char.{is_ascii_digit}
use Rattle.std.specs.List.{list_all}
use Rattle.query_core.specs.declared.query.Query.{Query}
use Rattle.plan_lines.specs.Text.{indent}
use Rattle.plan_reading.specs.Named.{named_text, HasForm}
use Rattle.plan_reading.specs.declared.line.NodeLine.{NodeLine}

-- neither = nor a newline
abbrev pub is_bare : ℕ → Bool
is_bare byte = not (byte == 61) && not (byte == 10)

-- no newline
abbrev pub is_inner : ℕ → Bool
is_inner byte = not (byte == 10)

abbrev pub is_space : ℕ → Bool
is_space byte = byte == 32

-- the text begins with something that is no space
abbrev pub IsFlush : List ℕ → Type 0
IsFlush [] = ⊥
IsFlush (byte ∷ rest) = is_space byte ≡ false

-- a line without its newline
abbrev pub line_of_parts : List ℕ → List ℕ → List ℕ → List ℕ → List ℕ
line_of_parts spaces name rows cost = spaces ++ name ++ codes " rows=" ++ rows ++ codes " cost=" ++ cost

-- the line consists of spaces, a name, digits, and what is behind ` cost=`
pub record ArePartsOf (line spaces name rows cost : List ℕ) : Type 0 where
  pub spaced : list_all is_space spaces ≡ true
  pub flush : IsFlush name
  pub bare : list_all is_bare name ≡ true
  pub digits : list_all is_ascii_digit rows ≡ true
  pub whole : line ≡ line_of_parts spaces name rows cost

-- the bytes are those of the line, whose node the query can name
pub record IsLine (q : Query) (bytes : List ℕ) (line : NodeLine) : Type 0 where
  pub form : HasForm q line.node
  pub rows_fit : line.rows < 2 ^ 64
  pub cost_fits : line.cost < 2 ^ 64
  pub text : bytes ≡ line_of_parts (indent line.level) (named_text q line.node) (decimal line.rows) (decimal line.cost)

abbrev pub NoLine : Query → List ℕ → Type 0
NoLine q bytes = (line : NodeLine) → IsLine q bytes line → ⊥

-- no `+` and no zero stands before a number
abbrev pub is_plain : List ℕ → Bool
is_plain word = not (slice_index word 0 == 43) && (length word == 1 || not (slice_index word 0 == 48))

-- the bytes are a line without a newline, then one, and then what is behind it
pub record IsCutAt (bytes line rest : List ℕ) : Type 0 where
  pub inner : list_all is_inner line ≡ true
  pub whole : bytes ≡ line ++ 10 ∷ rest
