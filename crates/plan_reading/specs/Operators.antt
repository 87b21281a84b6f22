-- Operators over other groups, and the list of all operators.
use Rattle.std.specs.Prelude.{ℕ, ◌≡◌, List, [], ◌∷◌, ⊤}
use Rattle.query_core.specs.declared.words.KeyParts.{KeyParts}
use Rattle.query_core.specs.declared.words.KeyParts.TheVariants.{Get}
use Rattle.query_core.specs.declared.expressions.Children.{Children}
use Rattle.query_core.specs.declared.expressions.Children.TheVariants.{Zero, One, Two}
use Rattle.query_core.specs.declared.expressions.Physical.{Physical}
use Rattle.query_core.specs.declared.expressions.Physical.TheVariants as physical

-- the same operator over these groups, the first of which is a single child
abbrev pub over_groups : Physical → KeyParts → KeyParts → Physical
over_groups physical.Scan a b = physical.Scan
over_groups (physical.IndexScan index) a b = physical.IndexScan index
over_groups (physical.Filter child) a b = physical.Filter a
over_groups (physical.IndexSeek index) a b = physical.IndexSeek index
over_groups (physical.HashJoin left right) a b = physical.HashJoin a b
over_groups (physical.MergeJoin left right) a b = physical.MergeJoin a b
over_groups (physical.LoopJoin left right) a b = physical.LoopJoin a b
over_groups (physical.HashAgg child) a b = physical.HashAgg a
over_groups (physical.StreamAgg child) a b = physical.StreamAgg a
over_groups (physical.PartialAgg child) a b = physical.PartialAgg a

-- the operator as a line names it, which doesn't say over which groups it is: these count as the first table
abbrev pub unplaced : Physical → Physical
unplaced o = over_groups o (Get 0) (Get 0)

-- the groups count as the first table
abbrev pub AreFirst : Children → Type 0
AreFirst Zero = ⊤
AreFirst (One child) = child ≡ Get 0
AreFirst (Two left right) = (left ≡ Get 0) × (right ≡ Get 0)

-- as lines name them, the operators that read by no index
abbrev pub direct_operators : List Physical
direct_operators =
    physical.Scan ∷ physical.Filter (Get 0) ∷ physical.HashJoin (Get 0) (Get 0) ∷ physical.MergeJoin (Get 0) (Get 0)
    ∷ physical.LoopJoin (Get 0) (Get 0) ∷ physical.HashAgg (Get 0) ∷ physical.StreamAgg (Get 0)
    ∷ physical.PartialAgg (Get 0) ∷ []

-- and those that read by the index of this number
abbrev pub index_operators : ℕ → List Physical
index_operators index = physical.IndexScan index ∷ physical.IndexSeek index ∷ []
