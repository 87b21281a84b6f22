-- ExpandNAry: a join in no order gives the join of one of its tables with the join of the others.
use Rattle.std.specs.Prelude.{ℕ, ◌≡◌, ◌-◌, ◌^◌, ◌≤◌}
use Rattle.query_core.specs.Sets.{Has}
use Rattle.query_core.specs.Connected.{IsConnected}
use Rattle.query_core.specs.Keys.{top_of}
use Rattle.query_core.specs.declared.query.Query.{Query}
use Rattle.query_core.specs.declared.words.KeyParts.{KeyParts}
use Rattle.query_core.specs.declared.words.KeyParts.TheVariants as groups
use Rattle.query_core.specs.declared.expressions.Logical.{Logical}
use Rattle.query_core.specs.declared.expressions.Logical.TheVariants as logical

-- the join of this set, in no order
abbrev pub JoinsSet : KeyParts → Logical → ℕ → Type 0
JoinsSet group from set = (group ≡ groups.Join set) × (from ≡ logical.NJoin)

-- the table is in the set, and the others are connected without it
abbrev pub IsCut : Query → ℕ → ℕ → Type 0
IsCut q set table = Has set table × IsConnected q.links (set - 2 ^ table)

-- the greatest table of the set without which the others are connected
pub record IsLastCut (q : Query) (set table : ℕ) : Type 0 where
  pub cut : IsCut q set table
  pub greatest : (t : ℕ) → IsCut q set t → t ≤ table

-- that table comes to the right, and the join of the others to the left
abbrev pub Expands : Query → KeyParts → Logical → Logical → Type 0
Expands q group from to =
    (set table : ℕ) × JoinsSet group from set × IsLastCut q set table
    × (to ≡ logical.Join (top_of q (set - 2 ^ table)) (top_of q (2 ^ table)))
