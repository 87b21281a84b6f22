-- Groups of a query and the numbers of their keys.
use Rattle.std.specs.Prelude.{ℕ, Bool, true, false, List, ◌≡◌, ◌&&◌, ◌||◌, ◌==◌, ◌+◌, ◌-◌, ◌<◌, ◌^◌, length, nat_lt}
use Rattle.std.specs.Prelude.{nat_le, slice_get, IsTrue, if◌then◌else◌}
use Rattle.std.specs.List.{list_any}
use Rattle.std.specs.Option.{option_map_or}
use Rattle.query_core.specs.Items.{is_column_of}
use Rattle.query_core.specs.Sets.{bit, only_of, is_several}
use Rattle.query_core.specs.Connected.{IsConnected}
use Rattle.query_core.specs.declared.table.Item.{Item}
use Rattle.query_core.specs.declared.predicate.Pred.{Pred}
use Rattle.query_core.specs.declared.predicate.Operand as operands
use Rattle.query_core.specs.declared.predicate.Operand.{Operand}
use Rattle.query_core.specs.declared.query.Query.{Query}
use Rattle.query_core.specs.declared.words.Key.{Key}
use Rattle.query_core.specs.declared.words.KeyParts.{KeyParts}
use Rattle.query_core.specs.declared.words.KeyParts.TheVariants.{Get, Filter, Join, Partial, Agg}

-- the number of a group's key
abbrev pub key_number : KeyParts → ℕ
key_number (Get t) = t
key_number (Filter t) = 16 + t
key_number (Join set) = 1024 + set
key_number Partial = 2048
key_number Agg = 2049

-- tables and sets of tables are those that a query of 10 tables can have
abbrev pub IsGroupInRange : KeyParts → Type 0
IsGroupInRange (Get t) = t < 10
IsGroupInRange (Filter t) = t < 10
IsGroupInRange (Join set) = set < 1024
IsGroupInRange Partial = IsTrue true
IsGroupInRange Agg = IsTrue true

-- a right side that is a column is one of the table
abbrev pub lies_in : List Item → ℕ → Operand → Bool
lies_in items t (operands.TheVariants.Item number) = is_column_of items t number
lies_in items t (operands.TheVariants.Int value) = true
lies_in items t (operands.TheVariants.Str text) = true

-- all columns of the predicate lie in the table
abbrev pub is_own : List Item → ℕ → Pred → Bool
is_own items t pred = is_column_of items t pred.left && lies_in items t pred.right

-- the table has predicates of its own
abbrev pub has_own : Query → ℕ → Bool
has_own q t = list_any (is_own q.items t) q.preds

-- the query has the group: a table, a table with own predicates, a connected set of two or more tables, and the two of
-- a grouped query
abbrev pub IsGroup : Query → KeyParts → Type 0
IsGroup q (Get t) = t < length q.tables
IsGroup q (Filter t) = (t < length q.tables) × IsTrue (has_own q t)
IsGroup q (Join set) = (set < 2 ^ length q.tables) × IsTrue (is_several set) × IsConnected q.links set
IsGroup q Partial = IsTrue q.grouped
IsGroup q Agg = IsTrue q.grouped

-- the key is that of the group, which the query has
pub record NamesGroup (q : Query) (key : Key) (group : KeyParts) : Type 0 where
  pub number : key.0 ≡ key_number group
  pub known : IsGroup q group

-- the key is that of a group of the query
abbrev pub IsKey : Query → Key → Type 0
IsKey q key = (group : KeyParts) × NamesGroup q key group

-- the group of one table: where it has own predicates these are applied
abbrev pub group_of_table : Query → ℕ → KeyParts
group_of_table q t = if has_own q t then Filter t else Get t

-- the group that joins the tables of a set
abbrev pub top_of : Query → ℕ → KeyParts
top_of q set = option_map_or (group_of_table q) (only_of set) (Join set)

-- the tables of a group that joins tables
abbrev pub tables_of : KeyParts → ℕ
tables_of (Get t) = 2 ^ t
tables_of (Filter t) = 2 ^ t
tables_of (Join set) = set
tables_of Partial = 0
tables_of Agg = 0

-- the group that joins all tables
abbrev pub input_of : Query → KeyParts
input_of q = top_of q (2 ^ length q.tables - 1)

-- the group of the whole query
abbrev pub root_of : Query → KeyParts
root_of q = if q.grouped then Agg else input_of q

-- the item is a column of a table of the set
abbrev pub is_column_in : List Item → ℕ → ℕ → Bool
is_column_in items set number = option_map_or (λ item. bit set item.table == 1) (slice_get items number) false

-- the number is that of a GROUP BY column
abbrev pub is_grouped_by : Query → ℕ → Bool
is_grouped_by q number = list_any (λ column. column == number) q.group_by

-- the number is that of an aggregate
abbrev pub is_aggregate : Query → ℕ → Bool
is_aggregate q number = nat_le (length q.items) number && nat_lt number (length q.items + length q.aggs)

-- the item is one of the group's columns
abbrev pub has_item : Query → KeyParts → ℕ → Bool
has_item q (Get t) number = is_column_of q.items t number
has_item q (Filter t) number = is_column_of q.items t number
has_item q (Join set) number = is_column_in q.items set number
has_item q Partial number = is_grouped_by q number
has_item q Agg number = is_grouped_by q number || is_aggregate q number
