-- JoinCommute: a join gives the join of the same groups the other way round.
use Rattle.std.specs.Prelude.{◌≡◌}
use Rattle.query_core.specs.declared.words.KeyParts.{KeyParts}
use Rattle.query_core.specs.declared.expressions.Logical.{Logical}
use Rattle.query_core.specs.declared.expressions.Logical.TheVariants as logical

-- the left group comes to the right, and the right one to the left
abbrev pub Commutes : Logical → Logical → Type 0
Commutes from to = (left right : KeyParts) × (from ≡ logical.Join left right) × (to ≡ logical.Join right left)
