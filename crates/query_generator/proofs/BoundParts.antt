-- What a generated query is bound to: its parts, and their lists and orders.
use Rattle.std.proofs.Common.{◌≡◌, ℕ, ◌-◌, ◌≤◌, true, false, List, [], ◌∷◌, ◌++◌, map, filter, length, nat_lt, Ok}
use Rattle.std.specs.Prelude.{filter_map}
use Rattle.std.specs.List.{flat_map, list_all, range_with_len}
use Rattle.query_core.specs.declared.predicate.CmpOp.TheVariants as ops
use Rattle.query_core.specs.declared.predicate.Link.{Link}
use Rattle.query_core.specs.declared.predicate.Pred.{Pred}
use Rattle.query_core.specs.declared.table.Item.{Item}
use Rattle.query_core.specs.declared.table.QueryTable.{QueryTable}
use Rattle.query_core.specs.Links.{is_between, predicate_links}
use Rattle.request_props.specs.Found.{one_each, ascending, elements_of, sides_of, unless_empty}
use Rattle.request_props.specs.Listing.{listing_of}
use Rattle.sql_bind.specs.declared.conditions.Compared.{Compared}
use Rattle.sql_bind.specs.declared.conditions.Side.TheVariants as sides
use Rattle.sql_bind.specs.declared.parts.Parts.{Parts}
use Rattle.sql_bind.specs.Scope.{FromTable, scope_of}
use Rattle.sql_bind.specs.Columns.{column, column_of}
use Rattle.sql_bind.specs.Conditions.{compared_of}
use Rattle.sql_bind.specs.Grouping.{item_count}
use Rattle.sql_bind.specs.Used.{used_by}
use Rattle.sql_bind.specs.Query.{group_numbers, items_of, order_of, preds_of, tables_from}
use Rattle.query_generator.specs.declared.shape.GenShape.{GenShape}
use Rattle.query_generator.specs.declared.shape.GenShape.TheVariants.{Chain, Star, Clique}
use Rattle.query_generator.specs.Catalog.{catalog_of, table_name, table_of}
use Rattle.query_generator.specs.Select.{behind, from_of, is_joined, select_of}
use Rattle.query_generator.proofs.FirstBound.{chosen_at, key_at, written_first}
use Rattle.query_generator.proofs.Linked.{leads}

-- ---- the parts

-- table i, as the catalogue has it
abbrev pub from_table : ℕ → ℕ → FromTable
from_table number i = record { alias = table_name i; info = table_of number i }

abbrev pub scope_by : ℕ → ℕ → List FromTable
scope_by number tables = map (from_table number) (range_with_len 0 tables)

-- the join of tables i and j
abbrev pub comparison : ℕ → ℕ → Compared
comparison i j = record { left = column i 1; op = ops.Eq; right = sides.Column (column j 0) }

abbrev pub comparisons_of : GenShape → ℕ → ℕ → List Compared
comparisons_of shape tables i = map (comparison i) (filter (is_joined shape i) (behind tables i))

abbrev pub comparisons : GenShape → ℕ → List Compared
comparisons shape tables = flat_map (comparisons_of shape tables) (range_with_len 0 tables)

-- the parts, where the element and the key stand at these places
abbrev pub parts_by : GenShape → ℕ → ℕ → ℕ → ℕ → Parts
parts_by shape tables number at key = record {
  scope = scope_by number tables;
  chosen = chosen_at at ∷ [];
  compared = comparisons shape tables;
  group = [];
  keys = key_at key ∷ [];
}

-- ---- the query of some parts

abbrev pub tables_of : Parts → List QueryTable
tables_of parts = tables_from (used_by parts) 0 parts.scope

abbrev pub items_by : Parts → List Item
items_by parts = items_of (used_by parts)

abbrev pub preds_by : Parts → List Pred
preds_by parts = preds_of (used_by parts) parts.compared

abbrev pub links_by : Parts → List Link
links_by parts = predicate_links (items_by parts) (preds_by parts)

-- the columns of the equalities between tables
abbrev pub joined_by : Parts → List ℕ
joined_by parts = flat_map (sides_of (items_by parts)) (preds_by parts)

abbrev pub group_by : Parts → List ℕ
group_by parts = group_numbers (used_by parts) parts.group

abbrev pub lists_by : Parts → List (List ℕ)
lists_by parts = listing_of (filter_map (λ t. t.hashed) (tables_of parts) ++ one_each (joined_by parts) ++ unless_empty
    (group_by parts))

abbrev pub orders_by : Parts → List (List ℕ)
orders_by parts =
    listing_of (unless_empty (elements_of (order_of (used_by parts) parts.keys)) ++ one_each
    (ascending (joined_by parts)) ++ unless_empty (ascending (group_by parts)))

-- ---- what is known of them

-- the tables are found in the catalogue, and the `id` of the first one
pub record AreFound (number tables : ℕ) : Type 0 where
  pub scope : scope_of (catalog_of number tables) (map from_of (range_with_len 0 tables)) ≡ Ok (scope_by number tables)
  pub first : column_of (scope_by number tables) written_first ≡ Ok (column 0 0)

-- few items, lists and orders, and each table is linked to a lesser one
pub record AreLinkedAndFew (lesser : ℕ → ℕ) (parts : Parts) : Type 0 where
  pub few_items : nat_lt 60 (item_count parts) ≡ false
  pub between : list_all (is_between (length (tables_of parts))) (links_by parts) ≡ true
  pub linked : list_all (leads (links_by parts) lesser) (range_with_len 1 (length (tables_of parts) - 1)) ≡ true
  pub few_lists : length (lists_by parts) ≤ 60
  pub few_orders : length (orders_by parts) ≤ 60

-- the lesser table to which each table of a shape is linked
abbrev pub lesser : GenShape → ℕ → ℕ
lesser Chain t = t - 1
lesser Star t = 0
lesser Clique t = 0

-- the columns of the joins are found, and so on
pub record AreJoined (shape : GenShape) (tables number at key : ℕ) : Type 0 where
  pub compared : compared_of (scope_by number tables) (select_of shape tables).preds ≡ Ok (comparisons shape tables)
  pub good : AreLinkedAndFew (lesser shape) (parts_by shape tables number at key)
