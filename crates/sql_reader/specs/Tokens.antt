-- What a single token says.
use Rattle.std.specs.Prelude.{ℕ, Bool, false, ◌==◌, if◌then◌else◌, ℤ, List, Option, Some, None}
use Rattle.sql_reader.specs.declared.tokens.Mark.{Mark}
use Rattle.sql_reader.specs.declared.tokens.Mark.TheVariants as marks
use Rattle.sql_reader.specs.declared.tokens.Function.{Function}
use Rattle.sql_reader.specs.declared.tokens.Kind.{Kind}
use Rattle.sql_reader.specs.declared.tokens.Kind.TheVariants as kinds
use Rattle.sql_reader.specs.declared.tokens.Token.{Token}
use Rattle.sql_reader.specs.declared.tokens.Name.{Name}
use Rattle.sql_reader.specs.declared.syntax.SelOp.{SelOp}
use Rattle.sql_reader.specs.declared.syntax.SelOp.TheVariants as ops
use Rattle.sql_reader.specs.Marks.{mark_number}

-- the token is this mark
abbrev pub is_mark : Mark → Kind → Bool
is_mark mark (kinds.Mark other) = mark_number mark == mark_number other
is_mark mark (kinds.Name text) = false
is_mark mark (kinds.Function function) = false
is_mark mark (kinds.Integer number) = false
is_mark mark (kinds.Quoted text) = false

-- the mark's place
abbrev pub place_of : Mark → Token → Option ℕ
place_of mark token = if is_mark mark token.kind then Some token.at else None

-- the name that a token of this kind at the place is
abbrev pub name_in : ℕ → Kind → Option Name
name_in at (kinds.Name text) = Some (record { at = at; text = text })
name_in at (kinds.Mark mark) = None
name_in at (kinds.Function function) = None
name_in at (kinds.Integer number) = None
name_in at (kinds.Quoted text) = None

-- the name that the token is, and its place
abbrev pub name_of : Token → Option Name
name_of token = name_in token.at token.kind

-- the function that a token of this kind is
abbrev pub function_in : Kind → Option Function
function_in (kinds.Function function) = Some function
function_in (kinds.Mark mark) = None
function_in (kinds.Name text) = None
function_in (kinds.Integer number) = None
function_in (kinds.Quoted text) = None

-- the function that the token is
abbrev pub called_of : Token → Option Function
called_of token = function_in token.kind

-- the integer that a token of this kind is
abbrev pub integer_in : Kind → Option ℤ
integer_in (kinds.Integer number) = Some number
integer_in (kinds.Mark mark) = None
integer_in (kinds.Name text) = None
integer_in (kinds.Function function) = None
integer_in (kinds.Quoted text) = None

-- the integer that the token is
abbrev pub integer_of : Token → Option ℤ
integer_of token = integer_in token.kind

-- the text that a token of this kind is
abbrev pub quoted_in : Kind → Option (List ℕ)
quoted_in (kinds.Quoted text) = Some text
quoted_in (kinds.Mark mark) = None
quoted_in (kinds.Name text) = None
quoted_in (kinds.Function function) = None
quoted_in (kinds.Integer number) = None

-- the text that the token is
abbrev pub quoted_of : Token → Option (List ℕ)
quoted_of token = quoted_in token.kind

-- the comparison that a mark is
abbrev pub comparison : Mark → Option SelOp
comparison marks.Equal = Some ops.Eq
comparison marks.NotEqual = Some ops.Ne
comparison marks.Less = Some ops.Lt
comparison marks.LessEqual = Some ops.Le
comparison marks.Greater = Some ops.Gt
comparison marks.GreaterEqual = Some ops.Ge
comparison _ = None

-- the comparison that a token of this kind is
abbrev pub op_in : Kind → Option SelOp
op_in (kinds.Mark mark) = comparison mark
op_in (kinds.Name text) = None
op_in (kinds.Function function) = None
op_in (kinds.Integer number) = None
op_in (kinds.Quoted text) = None

-- the comparison that the token is
abbrev pub op_of : Token → Option SelOp
op_of token = op_in token.kind
