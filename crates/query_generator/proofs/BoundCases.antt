-- The parts of each shape's query over 1 to 8 tables, computed.
use Rattle.std.proofs.Common.{◌≡◌, ℕ, ◌-◌, ◌≤◌, ◌&&◌, Bool, true, List, map, length, nat_lt, Ok, refl, arith}
use Rattle.std.specs.Fmt.{digits}
use Rattle.std.specs.List.{list_all, range_with_len}
use Rattle.std.proofs.lemmas.Bool.{and_parts, le-ltb, ltb-true}
use Rattle.query_core.specs.Links.{is_between}
use Rattle.sql_bind.specs.declared.conditions.Compared.{Compared}
use Rattle.sql_bind.specs.declared.parts.Parts.{Parts}
use Rattle.sql_bind.specs.Steps.{Binding, each}
use Rattle.sql_bind.specs.Scope.{has_alias, info_of, scope_of}
use Rattle.sql_bind.specs.Columns.{column, column_of}
use Rattle.sql_bind.specs.Conditions.{compared_in, compared_of}
use Rattle.sql_bind.specs.Grouping.{item_count}
use Rattle.sql_bind.specs.Used.{used_by}
use Rattle.sql_bind.specs.Query.{distinct_by}
use Rattle.query_generator.specs.declared.shape.GenShape.{GenShape}
use Rattle.query_generator.specs.declared.shape.GenShape.TheVariants.{Chain, Star, Clique}
use Rattle.query_generator.specs.Catalog.{catalog_of}
use Rattle.query_generator.specs.Select.{from_of, select_of}
use Rattle.query_generator.proofs.BoundParts.{AreFound, AreJoined, AreLinkedAndFew, comparisons, lesser, links_by}
use Rattle.query_generator.proofs.BoundParts.{lists_by, orders_by, parts_by, scope_by, tables_of}
use Rattle.query_generator.proofs.FirstBound.{written_first}
use Rattle.query_generator.proofs.Linked.{leads}
use Rattle.query_generator.proofs.Throughout.{in_range, same_in_range}

pub tables_found : (number tables : ℕ) → 1 ≤ tables → tables ≤ 8 → AreFound number tables
unfolding digits each has_alias info_of
tables_found number tables some few = record {
  scope = same_in_range (λ t. scope_of (catalog_of number t) (map from_of (range_with_len 0 t)))
      (λ t. Ok (scope_by number t)) 1 8 tables refl some (omega arith);
  first = same_in_range (λ t. column_of (scope_by number t) written_first) (λ t. Ok (column 0 0)) 1 8 tables refl some
      (omega arith);
}

-- ---- joins

abbrev found_in : GenShape → ℕ → ℕ → Binding (List Compared)
found_in shape number t = compared_of (scope_by number t) (select_of shape t).preds

abbrev joined_in : GenShape → ℕ → ℕ → Binding (List Compared)
joined_in shape number t = Ok (comparisons shape t)

all_compared : (shape : GenShape) (number : ℕ)
    → map (found_in shape number) (range_with_len 1 8) ≡ map (joined_in shape number) (range_with_len 1 8)
unfolding digits each compared_in
all_compared Chain number = refl
all_compared Star number = refl
all_compared Clique number = refl

-- ---- links, items, lists and orders

-- the facts of AreLinkedAndFew, as one test
abbrev linked_and_few : (ℕ → ℕ) → Parts → Bool
linked_and_few lesser parts = nat_lt (item_count parts) 61
    && (list_all (is_between (length (tables_of parts))) (links_by parts)
    && (list_all (leads (links_by parts) lesser) (range_with_len 1 (length (tables_of parts) - 1))
    && (nat_lt (length (lists_by parts)) 61 && nat_lt (length (orders_by parts)) 61)))

are_linked_and_few : (lesser : ℕ → ℕ) (parts : Parts) → linked_and_few lesser parts ≡ true
    → AreLinkedAndFew lesser parts
are_linked_and_few lesser parts all =
    let items = and_parts (nat_lt (item_count parts) 61) _ all in
    let between = and_parts (list_all (is_between (length (tables_of parts))) (links_by parts)) _ items.1 in
    let linked = and_parts (list_all (leads (links_by parts) lesser) (range_with_len 1 (length (tables_of parts) - 1)))
    _ between.1 in
    let numbers = and_parts (nat_lt (length (lists_by parts)) 61) (nat_lt (length (orders_by parts)) 61) linked.1 in
    record {
      few_items = le-ltb 60 (item_count parts) (omega (arith, ltb-true (item_count parts) 61 items.0));
      between = between.0;
      linked = linked.0;
      few_lists = omega (arith, ltb-true (length (lists_by parts)) 61 numbers.0);
      few_orders = omega (arith, ltb-true (length (orders_by parts)) 61 numbers.1);
    }

abbrev good_at : GenShape → ℕ → ℕ → ℕ → ℕ → Bool
good_at shape number at key t = linked_and_few (lesser shape) (parts_by shape t number at key)

all_good : (shape : GenShape) (number at key : ℕ) → list_all (good_at shape number at key) (range_with_len 1 8) ≡ true
unfolding digits used_by distinct_by
all_good Chain number at key = refl
all_good Star number at key = refl
all_good Clique number at key = refl

pub tables_joined : (shape : GenShape) (tables number at key : ℕ) → 1 ≤ tables → tables ≤ 8
    → AreJoined shape tables number at key
tables_joined shape tables number at key some few = record {
  compared = same_in_range (found_in shape number) (joined_in shape number) 1 8 tables (all_compared shape number) some
      (omega arith);
  good = are_linked_and_few (lesser shape) (parts_by shape tables number at key)
      (in_range (good_at shape number at key) 1 8 tables (all_good shape number at key) some (omega arith));
}
