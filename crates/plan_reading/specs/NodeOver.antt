-- The node that a line names over kids of some groups.
use Rattle.std.specs.Prelude.{ℕ, ◌+◌, ◌<◌, List, [], ◌∷◌, bit_or, ⊤}
use Rattle.query_core.specs.Keys.{tables_of}
use Rattle.query_core.specs.Expressions.{implements}
use Rattle.query_core.specs.declared.words.KeyParts.{KeyParts}
use Rattle.query_core.specs.declared.words.KeyParts.TheVariants as groups
use Rattle.query_core.specs.declared.expressions.Logical.{Logical}
use Rattle.query_core.specs.declared.expressions.Logical.TheVariants as logical
use Rattle.query_core.specs.declared.expressions.Physical.{Physical}
use Rattle.plan_space.specs.Gives.{first_group}
use Rattle.plan_space.specs.declared.modes.Mode.{Mode}
use Rattle.plan_space.specs.declared.modes.Mode.TheVariants as modes
use Rattle.plan_space.specs.declared.nodes.NodeKind.{NodeKind}
use Rattle.plan_space.specs.declared.nodes.NodeKind.TheVariants as nodes
use Rattle.plan_space.specs.declared.seen.Kid.{Kid}
use Rattle.plan_reading.specs.Operators.{over_groups}
use Rattle.plan_reading.specs.declared.named.Named.{Named}
use Rattle.plan_reading.specs.declared.named.Named.TheVariants as named

-- the number of a mode
abbrev pub number_in : Mode → ℕ
number_in (modes.Plain number) = number
number_in (modes.Copied number) = 64 + number
number_in (modes.Hashed number) = 128 + number

-- the number of the mode is one that the numbers of modes have place for
abbrev pub IsSmall : Mode → Type 0
IsSmall (modes.Plain number) = number < 64
IsSmall (modes.Copied number) = number < 64
IsSmall (modes.Hashed number) = number < 64

-- the mode that a line names, if it names one, is such
abbrev pub HasSmallMode : Named → Type 0
HasSmallMode (named.Native o table mode) = IsSmall mode
HasSmallMode (named.Enforcer e) = ⊤

-- the group of the second of a node's kids
abbrev pub second_group : List Kid → KeyParts
second_group [] = groups.Get 0
second_group (kid ∷ kids) = first_group kids

-- the group that joins the kids' tables
abbrev pub joined_group : List Kid → KeyParts
joined_group kids = groups.Join (bit_or (tables_of (first_group kids)) (tables_of (second_group kids)))

-- the group in which this is implemented: the table's, or the one that the kids' groups tell
abbrev pub group_over : Logical → ℕ → List Kid → KeyParts
group_over logical.Get table kids = groups.Get table
group_over (logical.Select child) table kids = groups.Filter table
group_over logical.NJoin table kids = joined_group kids
group_over (logical.Join left right) table kids = joined_group kids
group_over (logical.Agg child) table kids = groups.Agg
group_over (logical.Partial child) table kids = groups.Partial

-- the first of the groups below: the table's, or the first kid's
abbrev pub group_below : Logical → ℕ → List Kid → KeyParts
group_below logical.Get table kids = first_group kids
group_below (logical.Select child) table kids = groups.Get table
group_below logical.NJoin table kids = first_group kids
group_below (logical.Join left right) table kids = first_group kids
group_below (logical.Agg child) table kids = first_group kids
group_below (logical.Partial child) table kids = first_group kids

-- an operator of a group in a mode
abbrev pub native : KeyParts → Physical → Mode → NodeKind
native group operator mode = nodes.Native (record { group = group; operator = operator }) (number_in mode)

-- the operator that implements this, over the kids
abbrev pub native_over : Logical → Physical → ℕ → Mode → List Kid → NodeKind
native_over implemented o table mode kids =
    native (group_over implemented table kids)
    (over_groups o (group_below implemented table kids) (second_group kids)) mode

-- the one node that may be meant
abbrev pub node_over : Named → List Kid → NodeKind
node_over (named.Native o table mode) kids = native_over (implements (groups.Get table) o) o table mode kids
node_over (named.Enforcer e) kids = nodes.Enforcer e
