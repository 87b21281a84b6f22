-- The query of a shape over so many tables.
use Rattle.std.specs.Prelude.{ℕ, ◌+◌, ◌-◌, ◌==◌, Bool, true, false, List, [], ◌∷◌, map, filter, codes, Some, None}
use Rattle.std.specs.List.{flat_map, range_with_len}
use Rattle.sql_reader.specs.declared.syntax.ColRef.{ColRef}
use Rattle.sql_reader.specs.declared.syntax.SelExpr.TheVariants as exprs
use Rattle.sql_reader.specs.declared.syntax.SelItem.{SelItem}
use Rattle.sql_reader.specs.declared.syntax.FromItem.{FromItem}
use Rattle.sql_reader.specs.declared.syntax.SelOp.TheVariants as ops
use Rattle.sql_reader.specs.declared.syntax.SelOperand.TheVariants as operands
use Rattle.sql_reader.specs.declared.syntax.SelPred.{SelPred}
use Rattle.sql_reader.specs.declared.syntax.SelKey.{SelKey}
use Rattle.sql_reader.specs.declared.syntax.Select.{Select}
use Rattle.query_generator.specs.declared.shape.GenShape.{GenShape}
use Rattle.query_generator.specs.declared.shape.GenShape.TheVariants.{Chain, Star, Clique}
use Rattle.query_generator.specs.Catalog.{table_name}

-- a column of table i
abbrev pub column_of : ℕ → List ℕ → ColRef
column_of i name = record { at = 0; table = Some (table_name i); name = name }

-- what is shown: the `id` of the first table
abbrev pub item_of_first : SelItem
item_of_first = record { expr = exprs.Column (column_of 0 (codes "id")); name_at = 0; name = None }

-- by which it is ordered
abbrev pub key_of_first : SelKey
key_of_first = record { col = column_of 0 (codes "id"); desc = false }

-- table i
abbrev pub from_of : ℕ → FromItem
from_of i = record { at = 0; table = table_name i; alias_at = 0; alias = None }

-- tables i and j, of which i comes first, are joined
abbrev pub is_joined : GenShape → ℕ → ℕ → Bool
is_joined Chain i j = j == i + 1
is_joined Star i j = i == 0
is_joined Clique i j = true

-- the join of tables i and j
abbrev pub join_of : ℕ → ℕ → SelPred
join_of i j = record { left = column_of i (codes "f"); op = ops.Eq; right = operands.Column (column_of j (codes "id")) }

-- the tables that follow table i
abbrev pub behind : ℕ → ℕ → List ℕ
behind tables i = range_with_len (i + 1) (tables - (i + 1))

-- the joins of table i with tables that follow it
abbrev pub joins_of : GenShape → ℕ → ℕ → List SelPred
joins_of shape tables i = map (join_of i) (filter (is_joined shape i) (behind tables i))

-- the query: the `id` of the first table, in its order
abbrev pub select_of : GenShape → ℕ → Select
select_of shape tables = record {
  items = item_of_first ∷ [];
  from = map from_of (range_with_len 0 tables);
  preds = flat_map (joins_of shape tables) (range_with_len 0 tables);
  group_by = [];
  order_by = key_of_first ∷ [];
}
