-- A query that is bound without a fault is valid.
use Rattle.std.proofs.Common.{◌≡◌, ◌∙◌, ℕ, ◌≤◌, ◌<◌, ◌+◌, ◌||◌, Bool, true, false, List, [], ◌∷◌, length, map, nat_le}
use Rattle.std.proofs.Common.{nat_lt, is_some, slice_get, option_to_list, Ok, refl, arith}
use Rattle.std.specs.List.{list_all}
use Rattle.std.specs.Option.{option_map_or}
use Rattle.std.proofs.lemmas.List.{length-map}
use Rattle.std.proofs.lemmas.Bool.Decides.{nat_tests}
use Rattle.orca_base.specs.Name.{has_name_form}
use Rattle.query_core.specs.Tables.{AreTables}
use Rattle.query_core.specs.Items.{AreItems}
use Rattle.query_core.specs.Conditions.{ArePredicates}
use Rattle.query_core.specs.Grouping.{IsGrouping}
use Rattle.query_core.specs.Results.{IsOutput, IsOrder, is_named, is_root_item}
use Rattle.query_core.specs.declared.catalog.Catalog.{Catalog}
use Rattle.query_core.specs.declared.output.OrderKey.{OrderKey}
use Rattle.query_core.specs.declared.table.Item.{Item}
use Rattle.query_core.specs.declared.aggregate.Agg.{Agg}
use Rattle.query_core.specs.Catalog.{IsCatalog}
use Rattle.sql_reader.specs.declared.syntax.Select.{Select}
use Rattle.sql_bind.specs.declared.columns.Column.{Column}
use Rattle.sql_bind.specs.declared.select_list.Chosen.{Chosen}
use Rattle.sql_bind.specs.declared.parts.Parts.{Parts}
use Rattle.sql_bind.specs.Columns.{is_among}
use Rattle.sql_bind.specs.SelectList.{aggregates}
use Rattle.sql_bind.specs.Used.{UsedColumn, listed_from, named_by}
use Rattle.sql_bind.specs.Used.{used_by, wanted_by}
use Rattle.sql_bind.specs.Numbers.{column_number}
use Rattle.sql_bind.specs.Query.{aggs_of, distinct_by, group_numbers, items_of, item_of, itself, key_item, key_of}
use Rattle.sql_bind.specs.Query.{order_of, outputs_of, output_of, preds_of, pred_of, tables_from}
use Rattle.sql_bind.specs.Grouping.{is_grouped, loose_chosen, loose_keys, loose_places}
use Rattle.sql_reader.specs.Readable.{IsReadable}
use Rattle.sql_bind.specs.Binding.{binding}
use Rattle.sql_bind.proofs.Found.{IsAt, within}
use Rattle.sql_bind.proofs.ScopeKept.{are_tables}
use Rattle.sql_bind.proofs.ItemsKept.{all_low}
use Rattle.sql_bind.proofs.Among.{among_first, among_later, among_right}
use Rattle.sql_bind.proofs.ListsKept.{are_items}
use Rattle.sql_bind.proofs.PredsKept.{arguments_in, as_counted, names_apart, names_formed, number_below}
use Rattle.sql_bind.proofs.PredsKept.{numbers_low, preds_in}
use Rattle.sql_bind.proofs.DistinctKept.{all_kept, map_itself, no_longer, no_twice, some_kept}
use Rattle.sql_bind.proofs.KeysKept.{is_named_number, named_aggregate}
use Rattle.sql_bind.proofs.RootKept.{chosen_root, keys_named, keys_root, named_low, nothing}
use Rattle.std.proofs.Math.Nat.{zero-add}
use Rattle.std.proofs.lemmas.Bool.{and_from, and_parts, or_right}
use Rattle.sql_bind.proofs.Named.{AreJudged}
use Rattle.sql_bind.proofs.NamedThere.{AreThere, all_used, bound_there, of_binding, used_is}

pub record IsValid (p : Parts) (used : List UsedColumn) : Type 0 where
  pub few : length used ≤ 60
  pub low : list_all (λ u. nat_le u.which.table 10) used ≡ true
  pub tables : AreTables (tables_from used 0 p.scope)
  pub items : AreItems (tables_from used 0 p.scope) (items_of used)
  pub preds : ArePredicates (items_of used) (preds_of used p.compared)
  pub grouping : IsGrouping (items_of used) (is_grouped p) (group_numbers used p.group) (aggs_of used p.chosen)
  pub output : IsOutput (items_of used) (is_grouped p) (group_numbers used p.group) (aggs_of used p.chosen)
      (outputs_of used p.chosen)
  pub order : IsOrder (items_of used) (is_grouped p) (group_numbers used p.group) (aggs_of used p.chosen)
      (order_of used p.keys)

least_one : (n : ℕ) → 1 ≤ n → nat_le 1 n ≡ true
least_one n le = grind (arith, nat_tests)

grouped_by : (groups : Bool) (n : ℕ) → 0 < n → (groups || nat_le 1 n) ≡ true
grouped_by groups n some = or_right groups (nat_le 1 n) (least_one n (omega arith))

numbers_in : (used : List UsedColumn) (group : List Column) → ((c : Column) → is_among group c ≡ true → IsAt used c)
    → list_all (λ n. nat_lt n (length (items_of used))) (map (column_number used) group) ≡ true
numbers_in used [] at = refl
numbers_in used (c ∷ cs) at =
    and_from (nat_lt (column_number used c) (length (items_of used)))
    (list_all (λ n. nat_lt n (length (items_of used))) (map (column_number used) cs))
    (within used c (at c (among_first c cs))) (numbers_in used cs (λ d among. at d (among_later d c cs among)))

outputs_named : (used : List UsedColumn) (chosen : List Chosen)
    → list_all (λ c. list_all has_name_form (option_to_list c.name)) chosen ≡ true
    → list_all (λ out. list_all has_name_form (option_to_list out.name)) (outputs_of used chosen) ≡ true
outputs_named used [] named = refl
outputs_named used (c ∷ cs) named =
    let parts = and_parts (list_all has_name_form (option_to_list c.name))
    (list_all (λ x. list_all has_name_form (option_to_list x.name)) cs) named in
    and_from (list_all has_name_form (option_to_list c.name))
    (list_all (λ out. list_all has_name_form (option_to_list out.name)) (outputs_of used cs)) parts.0
    (outputs_named used cs parts.1)

-- of at most eight, at most eight are kept
few_kept : {A : Type 0} → (number : A → ℕ) (xs : List A) {n : ℕ} → length xs ≡ n → n ≤ 8
    → length (distinct_by number xs) ≤ 8
few_kept number xs counted few = omega (arith, no_longer number xs, counted, few)

module _ (select : Select) (p : Parts) (readable : IsReadable select) (there : AreThere select p)
    (good : AreJudged p) where
  fits : length (all_used p) + aggregates p.chosen ≤ 60
  fits = rw (used_is p) at good.few

  groups : 0 < aggregates p.chosen → is_grouped p ≡ true
  groups some = grouped_by (nat_le 1 (length p.group)) (aggregates p.chosen) some

  none_chosen : is_grouped p ≡ true → loose_chosen p.group p.chosen ≡ []
  unfolding loose_places
  none_chosen is = (nothing (loose_chosen p.group p.chosen) (loose_keys p.group p.keys) (good.none_loose is)).0

  none_keys : is_grouped p ≡ true → loose_keys p.group p.keys ≡ []
  unfolding loose_places
  none_keys is = (nothing (loose_chosen p.group p.chosen) (loose_keys p.group p.keys) (good.none_loose is)).1

  numbers : list_all (λ c. number_below (length (aggs_of (all_used p) p.chosen)) c.what) p.chosen ≡ true
  numbers = rw (as_counted (all_used p) p.chosen, ← zero-add (aggregates p.chosen))
      (numbers_low 0 p.chosen there.list.numbered)

  low_number : (n : ℕ) → is_named_number p.chosen n ≡ true → nat_lt n (length (aggs_of (all_used p) p.chosen)) ≡ true
  low_number n found = named_low p.chosen n (length (aggs_of (all_used p) p.chosen)) numbers found

  some_below : (n m : ℕ) → nat_lt n m ≡ true → 0 < m
  some_below n m low = grind (arith, nat_tests)

  named_groups : (n : ℕ) → is_named_number p.chosen n ≡ true → is_grouped p ≡ true
  named_groups n found = groups (rw (as_counted (all_used p) p.chosen) at
      (some_below n (length (aggs_of (all_used p) p.chosen)) (low_number n found)))

  names : (n : ℕ) → is_named_number p.chosen n ≡ true
      → option_map_or (λ agg. is_some agg.name) (slice_get (aggs_of (all_used p) p.chosen) n) false ≡ true
  names n found = named_aggregate (all_used p) p.chosen n there.list.numbered found

  -- the items, whether they are grouped, the numbers of GROUP BY and the aggregates, of the query over all used columns
  abbrev OfQuery : (List Item → Bool → List ℕ → List Agg → Type 0) → Type 0
  OfQuery Fact = Fact (items_of (all_used p)) (is_grouped p) (group_numbers (all_used p) p.group)
      (aggs_of (all_used p) p.chosen)

  grouping : OfQuery IsGrouping
  grouping =
      let u = all_used p in
      let columns = map (column_number u) p.group in
      record {
        marked = rw (as_counted u p.chosen, some_kept itself columns, length-map p.group (column_number u)) refl;
        few = few_kept itself columns (length-map p.group (column_number u) ∙ there.group_counted) readable.few_columns;
        columns = all_kept itself (λ n. nat_lt n (length (items_of u))) columns (numbers_in u p.group there.group_used);
        apart = rw (map_itself (distinct_by itself columns)) at (no_twice itself columns);
        arguments = arguments_in u p.chosen there.list.arguments there.chosen_used;
        named = names_formed u p.chosen there.list.named;
        names_apart = names_apart u p.chosen there.list.differ;
        items_fit = rw (length-map u item_of, as_counted u p.chosen) fits;
      }

  output : OfQuery (λ items grouped columns aggs.
      IsOutput items grouped columns aggs (outputs_of (all_used p) p.chosen))
  output =
      let u = all_used p in
      record {
        some = rw (length-map p.chosen (output_of u), there.chosen_counted) readable.some_items;
        few = rw (length-map p.chosen (output_of u), there.chosen_counted) readable.few_items;
        of_root = chosen_root u p.group (is_grouped p) (aggs_of u p.chosen) p.chosen none_chosen there.chosen_used
            numbers groups;
        named = outputs_named u p.chosen there.list.named;
      }

  order : OfQuery (λ items grouped columns aggs. IsOrder items grouped columns aggs (order_of (all_used p) p.keys))
  order =
      let u = all_used p in
      let keys = map (key_of u) p.keys in
      record {
        few = few_kept key_item keys (length-map p.keys (key_of u) ∙ there.keys_counted) readable.few_keys;
        of_root = all_kept key_item (λ (k : OrderKey).
            is_root_item (items_of u) (is_grouped p) (group_numbers u p.group) (aggs_of u p.chosen) k.item) keys
            (keys_root u p.group (is_grouped p) (aggs_of u p.chosen) p.scope p.chosen low_number named_groups names
            p.keys there.targets none_keys there.keys_used);
        named = all_kept key_item (λ (k : OrderKey). is_named (items_of u) (aggs_of u p.chosen) k.item) keys
            (keys_named u p.group (is_grouped p) (aggs_of u p.chosen) p.scope p.chosen low_number named_groups names
            p.keys there.targets there.keys_used);
        apart = no_twice key_item keys;
      }

  all_valid : IsValid p (all_used p)
  all_valid = record {
    few = omega (arith, fits);
    low = all_low (wanted_by p) p.scope there.from.infos (rw there.tables_counted readable.few_tables);
    tables = are_tables (all_used p) p.scope there.from (rw there.tables_counted readable.some_tables)
        (rw there.tables_counted readable.few_tables);
    items = are_items (wanted_by p) p.scope there.from.infos
        (λ c among. among_right (named_by p) (listed_from 0 p.scope) c among);
    preds = record {
      few = rw (length-map p.compared (pred_of (all_used p)), there.preds_counted) readable.few_preds;
      over_items = preds_in (all_used p) p.compared there.compared_used;
    };
    grouping = grouping;
    output = output;
    order = order;
  }

-- the parts of a binding without a fault
pub valid : (select : Select) (catalog : Catalog) (p : Parts) → IsReadable select → IsCatalog catalog
    → binding select catalog ≡ Ok p → IsValid p (used_by p)
valid select catalog p readable kept = of_binding select catalog p IsValid
    (λ parts is good. all_valid select parts readable (bound_there select catalog parts readable kept is) good)
