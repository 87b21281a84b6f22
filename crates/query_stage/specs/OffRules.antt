-- Which rules may be off.
use Rattle.std.specs.Prelude.{ℕ}
use Rattle.query_core.specs.Results.{AreOptions}
use Rattle.query_core.specs.declared.options.RootDist.TheVariants.{One}

-- the rules of the set may be off in a query
abbrev pub MayBeOff : ℕ → Type 0
MayBeOff set = AreOptions (record { root = One; off = set })
