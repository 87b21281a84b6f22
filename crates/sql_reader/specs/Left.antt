-- The tokens that are left.
use Rattle.std.specs.Prelude.{List, [], ◌∷◌, Option, Some, None}
use Rattle.sql_reader.specs.declared.tokens.Token.{Token}

-- the next one and the others; where there is no next one, none
abbrev pub left : Option Token → List Token → List Token
left None others = []
left (Some token) others = token ∷ others
