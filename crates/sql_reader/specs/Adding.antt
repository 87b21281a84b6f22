-- Tokens with one more at the end.
use Rattle.std.specs.Prelude.{ℕ, if◌then◌else◌, List, [], ◌∷◌, Option, Some, None}
use Rattle.sql_reader.specs.declared.tokens.Kind.{Kind}
use Rattle.sql_reader.specs.declared.tokens.Token.{Token}
use Rattle.sql_reader.specs.Lexing.{called, is_open}

-- the token as it is before `(`
abbrev pub called_token : Token → Token
called_token token = record { at = token.at; kind = called token.kind }

-- a token at the end; before `(` the last is what is called
abbrev pub added : List Token → Token → List Token
added [] token = token ∷ []
added (last ∷ []) token = (if is_open token.kind then called_token last else last) ∷ token ∷ []
added (first ∷ second ∷ tokens) token = first ∷ added (second ∷ tokens) token

-- what a piece at the offset spells, at the end
abbrev pub extended : List Token → ℕ → Option Kind → List Token
extended tokens at None = tokens
extended tokens at (Some kind) = added tokens (record { at = at; kind = kind })
