-- SplitAgg: grouping of all rows gives grouping of groups that each segment has made.
use Rattle.std.specs.Prelude.{◌≡◌}
use Rattle.query_core.specs.Keys.{input_of}
use Rattle.query_core.specs.declared.query.Query.{Query}
use Rattle.query_core.specs.declared.words.KeyParts.TheVariants as groups
use Rattle.query_core.specs.declared.expressions.Logical.{Logical}
use Rattle.query_core.specs.declared.expressions.Logical.TheVariants as logical

-- the groups of all rows
abbrev pub GroupsInput : Query → Logical → Type 0
GroupsInput q from = from ≡ logical.Agg (input_of q)

-- the groups that are not complete take the place of the rows
abbrev pub SplitsGrouping : Query → Logical → Logical → Type 0
SplitsGrouping q from to = GroupsInput q from × (to ≡ logical.Agg groups.Partial)
