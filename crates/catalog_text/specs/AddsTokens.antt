-- What a step of the writer adds.
use Rattle.std.specs.Prelude.{◌≡◌, List, ◌++◌}
use Rattle.json.specs.Token.{Token}
use Rattle.json.specs.Written.{Written}

-- the tokens go last, and what stood before the first of all is as it was
pub record AddsTokens (old new : Written) (more : List Token) : Type 0 where
  pub tokens : new.tokens ≡ old.tokens ++ more
  pub before : new.before ≡ old.before
