-- Nodes as their lines name them, and those that a query can name.
use Rattle.std.specs.Prelude.{ℕ, ◌≡◌, ◌<◌, List, length}
use Rattle.query_core.specs.Expressions.{physical_children, table_in, HasIndex}
use Rattle.query_core.specs.declared.query.Query.{Query}
use Rattle.query_core.specs.declared.expressions.Physical.{Physical}
use Rattle.query_core.specs.declared.expressions.Access.{Access}
use Rattle.query_core.specs.declared.expressions.Access.TheVariants as accesses
use Rattle.request_props.specs.Numbered.{IsList}
use Rattle.plan_space.specs.declared.modes.Mode.{Mode}
use Rattle.plan_space.specs.declared.modes.Mode.TheVariants as modes
use Rattle.plan_space.specs.declared.nodes.NodeKind.{NodeKind}
use Rattle.plan_space.specs.declared.nodes.NodeKind.TheVariants as nodes
use Rattle.plan_space.specs.declared.ways.Kept.{Kept}
use Rattle.plan_space.specs.declared.ways.Kept.TheVariants.{Rows, SpreadRows}
use Rattle.plan_space.specs.declared.ways.JoinBy.{JoinBy}
use Rattle.plan_space.specs.declared.ways.JoinBy.TheVariants as joins
use Rattle.plan_space.specs.declared.ways.Way.{Way}
use Rattle.plan_space.specs.declared.ways.Way.TheVariants.{Reads, Passes, Joins, Groups}
use Rattle.plan_space.specs.Modes.{mode_at}
use Rattle.plan_space.specs.Ways.{way_of}
use Rattle.plan_space.specs.Lines.{dists_of_table}
use Rattle.plan_check.specs.Nodes.{IsEnforcerOf}
use Rattle.plan_lines.specs.Text.{operator_text, enforcer_text, text_if_any}
use Rattle.plan_reading.specs.Operators.{unplaced, AreFirst}
use Rattle.plan_reading.specs.declared.named.Named.{Named}
use Rattle.plan_reading.specs.declared.named.Named.TheVariants as named

-- the node's text
abbrev pub named_text : Query → Named → List ℕ
named_text q (named.Native o table mode) = text_if_any (operator_text q o table mode)
named_text q (named.Enforcer e) = enforcer_text q e

-- a node, as its line names it
abbrev pub named_of : NodeKind → Named
named_of (nodes.Native e mode) = named.Native (unplaced e.operator) (table_in e.group) (mode_at mode)
named_of (nodes.Enforcer e) = named.Enforcer e

-- ---- modes that a query can name

-- the one mode of an operator that has one
abbrev pub HasOnlyForm : Mode → Type 0
HasOnlyForm (modes.Plain number) = number ≡ 0
HasOnlyForm (modes.Copied number) = ⊥
HasOnlyForm (modes.Hashed number) = ⊥

-- a read of a table's rows has a number for each distribution in which they are read
abbrev pub HasReadForm : Query → ℕ → Mode → Type 0
HasReadForm q table (modes.Plain number) = number < length (dists_of_table q table)
HasReadForm q table (modes.Copied number) = ⊥
HasReadForm q table (modes.Hashed number) = ⊥

-- a hash join by copies or on one segment has no number, and a co-located one that of a predicate
abbrev pub HasHashForm : Query → Mode → Type 0
HasHashForm q (modes.Plain number) = number ≡ 0
HasHashForm q (modes.Copied number) = number ≡ 0
HasHashForm q (modes.Hashed number) = number < length q.preds

-- each merge join has the number of a predicate
abbrev pub HasMergeForm : Query → Mode → Type 0
HasMergeForm q (modes.Plain number) = number < length q.preds
HasMergeForm q (modes.Copied number) = number < length q.preds
HasMergeForm q (modes.Hashed number) = number < length q.preds

-- a loop join has no number
abbrev pub HasLoopForm : Mode → Type 0
HasLoopForm (modes.Plain number) = number ≡ 0
HasLoopForm (modes.Copied number) = number ≡ 0
HasLoopForm (modes.Hashed number) = ⊥

-- how a join may work
abbrev pub HasJoinForm : Query → JoinBy → Mode → Type 0
HasJoinForm q joins.Hashing mode = HasHashForm q mode
HasJoinForm q joins.Merging mode = HasMergeForm q mode
HasJoinForm q joins.Looping mode = HasLoopForm mode

-- an aggregation is on one segment, or by a hashed list of the query
abbrev pub HasAggForm : Query → Mode → Type 0
HasAggForm q (modes.Plain number) = number ≡ 0
HasAggForm q (modes.Copied number) = ⊥
HasAggForm q (modes.Hashed list) = IsList q list

-- an operator that works so may work in the mode
abbrev pub HasModeForm : Query → Way → ℕ → Mode → Type 0
HasModeForm q (Reads access) table mode = HasReadForm q table mode
HasModeForm q (Passes kept child) table mode = HasOnlyForm mode
HasModeForm q (Joins by left right) table mode = HasJoinForm q by mode
HasModeForm q (Groups by child) table mode = HasAggForm q mode

-- ---- tables that a query can name

-- what is read is a table of the query, or an index of one
abbrev pub HasPlace : Query → ℕ → Access → Type 0
HasPlace q table accesses.Direct = table < length q.tables
HasPlace q table (accesses.Index index) = HasIndex q table index

-- the rows that are passed on are those of a table of the query; groups that are not complete are no table's
abbrev pub IsPassed : Query → ℕ → Kept → Type 0
IsPassed q table Rows = table < length q.tables
IsPassed q table SpreadRows = table ≡ 0

-- an operator that works so may make this table's rows; where it makes no table's, this is 0
abbrev pub HasTable : Query → Way → ℕ → Type 0
HasTable q (Reads access) table = HasPlace q table access
HasTable q (Passes kept child) table = IsPassed q table kept
HasTable q (Joins by left right) table = table ≡ 0
HasTable q (Groups by child) table = table ≡ 0

-- ---- the nodes that the query can name

-- an operator over no group in particular, whose table, index, predicate and list are the query's
pub record IsOperatorOf (q : Query) (o : Physical) (table : ℕ) (mode : Mode) : Type 0 where
  pub over_none : AreFirst (physical_children o)
  pub has_table : HasTable q (way_of o) table
  pub has_mode : HasModeForm q (way_of o) table mode

-- its tables, indexes, predicates, orders and lists are the query's
abbrev pub HasForm : Query → Named → Type 0
HasForm q (named.Native o table mode) = IsOperatorOf q o table mode
HasForm q (named.Enforcer e) = IsEnforcerOf q e
