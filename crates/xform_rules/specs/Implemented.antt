-- The rules that implement: which operator each gives, of which logical one, and when.
use Rattle.std.specs.Prelude.{ℕ, ◌≡◌, ◌<◌, length, IsSome}
use Rattle.query_core.specs.Crossing.{crossing_of}
use Rattle.query_core.specs.Expressions.{implements, physical_fields, HasIndex}
use Rattle.query_core.specs.declared.query.Query.{Query}
use Rattle.query_core.specs.declared.words.KeyParts.{KeyParts}
use Rattle.query_core.specs.declared.words.KeyParts.TheVariants as groups
use Rattle.query_core.specs.declared.expressions.Logical.{Logical}
use Rattle.query_core.specs.declared.expressions.Logical.TheVariants as logical
use Rattle.query_core.specs.declared.expressions.Physical.{Physical}
use Rattle.query_core.specs.declared.expressions.Physical.TheVariants as physical
use Rattle.xform_rules.specs.declared.rules.Rule.{Rule}
use Rattle.xform_rules.specs.declared.rules.Rule.TheVariants as rules
use Rattle.xform_rules.specs.declared.rules.Condition.{Condition}
use Rattle.xform_rules.specs.declared.rules.Condition.TheVariants.{Always, Equated, Grouping, OwnIndex, UsableIndex}
use Rattle.xform_rules.specs.UsableIndexes.{HasNthUsable}

-- the rule that gives the operator
abbrev pub rule_of : Physical → Rule
rule_of physical.Scan = rules.GetToScan
rule_of (physical.IndexScan index) = rules.GetToIndexScan
rule_of (physical.Filter child) = rules.SelectToFilter
rule_of (physical.IndexSeek index) = rules.SelectToIndexSeek
rule_of (physical.HashJoin left right) = rules.JoinToHash
rule_of (physical.MergeJoin left right) = rules.JoinToMerge
rule_of (physical.LoopJoin left right) = rules.JoinToLoop
rule_of (physical.HashAgg child) = rules.AggToHash
rule_of (physical.StreamAgg child) = rules.AggToStream
rule_of (physical.PartialAgg child) = rules.PartialToHash

-- the rule that gives the operator, and the logical operator of which it gives it in this group
abbrev pub implemented_by : KeyParts → Physical → Rule × Logical
implemented_by group to = (rule_of to, implements group to)

-- the number of the index that the operator reads, else 0
abbrev pub index_of : Physical → ℕ
index_of to = (physical_fields to).index

-- ---- conditions

-- some predicate equates a column of each group
abbrev pub HasCrossing : Query → KeyParts → KeyParts → Type 0
HasCrossing q left right = (number : ℕ) × IsSome (crossing_of q left right number)

-- the join of two groups that some predicate equates
abbrev pub IsEquated : Query → Logical → Type 0
IsEquated q from = (left right : KeyParts) × (from ≡ logical.Join left right) × HasCrossing q left right

-- the group has the rows of a table, and the table an index of this number
abbrev pub HasOwnIndex : Query → KeyParts → ℕ → Type 0
HasOwnIndex q group index = (t : ℕ) × (group ≡ groups.Get t) × HasIndex q t index

-- the group has the rows that meet a table's own predicates, and of the table's usable indexes the n-th has this number
abbrev pub HasUsable : Query → KeyParts → ℕ → ℕ → Type 0
HasUsable q group n index = (t : ℕ) × (group ≡ groups.Filter t) × HasNthUsable q t n index

-- the first operator, which reads no index
abbrev pub IsFirst : ℕ → ℕ → Type 0
IsFirst n index = (n ≡ 0) × (index ≡ 0)

-- of a logical operator of the group the condition allows an n-th operator, from 0, and this reads the index of this
-- number
abbrev pub IsAllowed : Query → KeyParts → Logical → Condition → ℕ → ℕ → Type 0
IsAllowed q group from Always n index = IsFirst n index
IsAllowed q group from Equated n index = IsFirst n index × IsEquated q from
IsAllowed q group from Grouping n index = IsFirst n index × (0 < length q.group_by)
IsAllowed q group from OwnIndex n index = (n ≡ index) × HasOwnIndex q group index
IsAllowed q group from UsableIndex n index = HasUsable q group n index

-- ---- results

-- the operator of this rule that implements the logical one, by the index of this number if it reads one
abbrev pub IsMadeBy : Rule → KeyParts → Logical → ℕ → Physical → Type 0
IsMadeBy rule group from index to = (rule_of to ≡ rule) × (implements group to ≡ from) × (index_of to ≡ index)

-- the n-th operator, from 0, that the rule makes of the logical one, where it implements under this condition
abbrev pub Makes : Query → Rule → Condition → KeyParts → Logical → ℕ → Physical → Type 0
Makes q rule condition group from n to =
    (rule_of to ≡ rule) × (implements group to ≡ from) × IsAllowed q group from condition n (index_of to)
