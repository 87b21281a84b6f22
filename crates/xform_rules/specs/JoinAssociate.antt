-- JoinAssociate: a join over a join of two groups, of which the second is linked to the right group, gives the join of
-- the first with the join of those two.
use Rattle.std.specs.Prelude.{ℕ, ◌≡◌, bit_or}
use Rattle.query_core.specs.Connected.{AreLinked}
use Rattle.query_core.specs.Keys.{top_of, tables_of}
use Rattle.query_core.specs.declared.query.Query.{Query}
use Rattle.query_core.specs.declared.words.KeyParts.{KeyParts}
use Rattle.query_core.specs.declared.words.KeyParts.TheVariants as groups
use Rattle.query_core.specs.declared.expressions.Logical.{Logical}
use Rattle.query_core.specs.declared.expressions.Logical.TheVariants as logical
use Rattle.query_core.specs.declared.expressions.Operator.TheVariants as operators
use Rattle.query_core.specs.declared.expressions.ExprParts.{ExprParts}

-- the join of a join of this set with the right group
abbrev pub JoinsJoin : Logical → ℕ → KeyParts → Type 0
JoinsJoin from set right = from ≡ logical.Join (groups.Join set) right

-- the join of some join with another group
abbrev pub IsOverJoin : Logical → Type 0
IsOverJoin from = (set : ℕ) × (right : KeyParts) × JoinsJoin from set right

-- the expression joins these groups in the group of the set
abbrev pub JoinsIn : ExprParts → ℕ → KeyParts → KeyParts → Type 0
JoinsIn bound set a b = bound ≡ record { group = groups.Join set; operator = operators.Logical (logical.Join a b) }

-- the bound expression joins groups a and b in the left group, a link joins b to the right group, and the other joins a
-- with the two
abbrev pub Associates : Query → Logical → ExprParts → Logical → Type 0
Associates q from bound to =
    (set : ℕ) × (right a b : KeyParts) × JoinsJoin from set right × JoinsIn bound set a b
    × AreLinked q.links (tables_of b) (tables_of right)
    × (to ≡ logical.Join a (top_of q (bit_or (tables_of b) (tables_of right))))
