-- What a generated query's text is read as is bound over the catalogue, to a query within the limits.
use Rattle.std.proofs.Common.{◌≡◌, ℕ, ◌≤◌, false, List, [], ◌∷◌, map, length, nat_lt, Ok, refl, sym, ap, ◌∙◌, subst}
use Rattle.query_core.specs.Catalog.{IsCatalog}
use Rattle.query_core.specs.Results.{AreOptions}
use Rattle.query_core.specs.declared.catalog.Catalog.{Catalog}
use Rattle.query_core.specs.declared.options.Options.{Options}
use Rattle.query_core.specs.declared.predicate.Link.{Link}
use Rattle.query_core.specs.declared.query.Query.{Query}
use Rattle.request_props.specs.Numbered.{lists_of, orders_of}
use Rattle.sql_reader.specs.declared.syntax.ColRef.{ColRef}
use Rattle.sql_reader.specs.declared.syntax.Select.{Select}
use Rattle.sql_reader.specs.Faults.{IsReading}
use Rattle.sql_reader.specs.Readable.{IsReadable}
use Rattle.sql_print.specs.Unplaced.{unplaced, unplaced_column}
use Rattle.sql_bind.specs.declared.columns.Column.{Column}
use Rattle.sql_bind.specs.declared.conditions.Compared.{Compared}
use Rattle.sql_bind.specs.declared.parts.Parts.{Parts}
use Rattle.sql_bind.specs.declared.select_list.Chosen.{Chosen}
use Rattle.sql_bind.specs.declared.sort_keys.SortKey.{SortKey}
use Rattle.sql_bind.specs.Steps.{each}
use Rattle.sql_bind.specs.Scope.{FromTable, scope_of}
use Rattle.sql_bind.specs.Columns.{columns_of}
use Rattle.sql_bind.specs.SelectList.{chosen_of}
use Rattle.sql_bind.specs.Conditions.{compared_of}
use Rattle.sql_bind.specs.SortKeys.{keys_of}
use Rattle.sql_bind.specs.Parts.{parts_of}
use Rattle.sql_bind.specs.Grouping.{is_grouped, item_count, judged}
use Rattle.sql_bind.specs.Binding.{binding, AreLinksOf, IsBound, IsQueryOf}
use Rattle.orca_base.proofs.Checked.{ok_is}
use Rattle.query_generator.specs.declared.shape.GenShape.{GenShape}
use Rattle.query_generator.specs.Catalog.{catalog_of}
use Rattle.query_generator.specs.Select.{select_of}
use Rattle.query_generator.specs.ReadAs.{IsReadAs}
use Rattle.query_generator.proofs.BoundCases.{tables_found, tables_joined}
use Rattle.query_generator.proofs.BoundParts.{AreLinkedAndFew, comparisons, items_by, lesser, links_by, lists_by}
use Rattle.query_generator.proofs.BoundParts.{orders_by, parts_by, preds_by, scope_by, tables_of}
use Rattle.query_generator.proofs.CatalogKept.{catalog_kept}
use Rattle.query_generator.proofs.FirstBound.{chosen_at, items_bound, key_at, keys_bound}
use Rattle.query_generator.proofs.Linked.{are_links}
use Rattle.query_generator.proofs.Offsets.{compared_same, scope_same}
use Rattle.query_generator.proofs.ReadableSame.{readable}
use Rattle.query_generator.proofs.SelectKept.{select_kept}

-- what the reader of queries promises: a text has one reading
abbrev pub OneReading : Type 0
OneReading = (text : List ℕ) (a b : Select) → IsReading text a → IsReading text b → a ≡ b

-- what the binder of names promises: a select that is bound without a fault has a query
abbrev pub QueriesAreThere : Type 0
QueriesAreThere = (select : Select) (catalog : Catalog) (options : Options) (parts : Parts) (links : List Link)
    → IsReadable select → IsCatalog catalog → AreOptions options
    → binding select catalog ≡ Ok parts → AreLinksOf parts links → (query : Query)
    × IsBound select catalog options query

-- ---- over plain parts

module _ (select : Select) (catalog : Catalog) where
  parts_from : (scope : List FromTable) (chosen : List Chosen) (compared : List Compared) (group : List Column)
      (keys : List SortKey)
      → scope_of catalog select.from ≡ Ok scope → chosen_of scope select.items ≡ Ok chosen
      → compared_of scope select.preds ≡ Ok compared
      → columns_of scope select.group_by ≡ Ok group → keys_of scope chosen select.order_by ≡ Ok keys
      → parts_of select catalog ≡ Ok (record {
        scope = scope;
        chosen = chosen;
        compared = compared;
        group = group;
        keys = keys;
      })
  unfolding parts_of
  parts_from scope chosen compared group keys is_scope is_chosen is_compared is_group is_keys =
      rw (is_scope, is_chosen, is_compared, is_group, is_keys) refl

  -- where nothing is grouped and items are few, nothing is refused
  judged_good : (parts : Parts) → parts_of select catalog ≡ Ok parts → is_grouped parts ≡ false
      → nat_lt 60 (item_count parts) ≡ false → binding select catalog ≡ Ok parts
  unfolding binding judged
  judged_good parts is ungrouped few = rw (is, ungrouped, few) refl

none_grouped : (scope : List FromTable) (columns : List ColRef) → map unplaced_column columns ≡ []
    → columns_of scope columns ≡ Ok []
unfolding each
none_grouped scope [] same = refl
none_grouped scope (c ∷ cs) same = absurd cc

module _ (parts : Parts) (catalog : Catalog) (options : Options) (q : Query) (is : IsQueryOf parts catalog options q)
  where
    lists_same : lists_of q ≡ lists_by parts
    lists_same = rw (is.tables, is.items, is.preds, is.group_by) refl

    orders_same : orders_of q ≡ orders_by parts
    orders_same = rw (is.items, is.preds, is.group_by, is.order) refl

-- ---- the parts of a generated query

-- the select is bound to parts that are linked and few
record IsBoundWell (number tables : ℕ) (shape : GenShape) (select : Select) : Type 0 where
  parts : Parts
  no_fault : binding select (catalog_of number tables) ≡ Ok parts
  good : AreLinkedAndFew (lesser shape) parts

module _ (number tables : ℕ) (shape : GenShape) (select : Select) (some : 1 ≤ tables) (few : tables ≤ 8)
    (same : unplaced select ≡ select_of shape tables) where
  bound_well : IsBoundWell number tables shape select
  bound_well =
      let catalog : Catalog = catalog_of number tables in
      let scope : List FromTable = scope_by number tables in
      let found = tables_found number tables some few in
      let item = items_bound scope found.first select.items (ap (λ (s : Select). s.items) same) in
      let key = keys_bound scope found.first (chosen_at item.0 ∷ []) select.order_by
      (ap (λ (s : Select). s.order_by) same) in
      let joined = tables_joined shape tables number item.0 key.0 some few in
      let parts : Parts = parts_by shape tables number item.0 key.0 in
      let is_scope = scope_same catalog select.from scope (ap (λ (s : Select). scope_of catalog s.from) same
      ∙ found.scope) in
      let is_compared = compared_same scope select.preds (comparisons shape tables)
      (ap (λ (s : Select). compared_of scope s.preds) same ∙ joined.compared) in
      let is_group = none_grouped scope select.group_by (ap (λ (s : Select). s.group_by) same) in
      let is_parts = parts_from select catalog scope (chosen_at item.0 ∷ []) (comparisons shape tables) []
      (key_at key.0 ∷ []) is_scope item.1 is_compared is_group key.1 in
      record {
        parts = parts;
        no_fault = judged_good select catalog parts is_parts refl joined.good.few_items;
        good = joined.good;
      }

  bound_links : AreLinksOf bound_well.parts (links_by bound_well.parts)
  bound_links = are_links (tables_of bound_well.parts) (items_by bound_well.parts) (preds_by bound_well.parts)
      (lesser shape) bound_well.good.between bound_well.good.linked

  module _ (options : Options) where
    there : QueriesAreThere → AreOptions options → (q : Query) × IsBound select (catalog_of number tables) options q
    there queries chosen =
        queries select (catalog_of number tables) options bound_well.parts (links_by bound_well.parts)
        (readable select (subst IsReadable (sym same) (select_kept shape tables some few)))
        (catalog_kept number tables few) chosen bound_well.no_fault bound_links

    parts_same : (q : Query) (bound : IsBound select (catalog_of number tables) options q)
        → bound.parts ≡ bound_well.parts
    parts_same q bound = ok_is bound.parts bound_well.parts (sym bound.no_fault ∙ bound_well.no_fault)

    few_lists : (q : Query) → IsBound select (catalog_of number tables) options q → length (lists_of q) ≤ 60
    few_lists q bound =
        rw (lists_same bound.parts (catalog_of number tables) options q bound.query, parts_same q bound)
        bound_well.good.few_lists

    few_orders : (q : Query) → IsBound select (catalog_of number tables) options q → length (orders_of q) ≤ 60
    few_orders q bound =
        rw (orders_same bound.parts (catalog_of number tables) options q bound.query, parts_same q bound)
        bound_well.good.few_orders

-- ---- what the text is read as

module _ (one : OneReading) (number tables : ℕ) (shape : GenShape) (options : Options) (select : Select)
    (read : IsReadAs shape tables select) where
  read_same : unplaced select ≡ select_of shape tables
  read_same =
      let again : select ≡ read.is_text.select =
      one read.text select read.is_text.select read.reading read.is_text.read in
      ap unplaced again ∙ read.is_text.same

  pub query_there : QueriesAreThere → AreOptions options → (q : Query)
      × IsBound select (catalog_of number tables) options q
  query_there = there number tables shape select read.some_tables read.few_tables read_same options

  pub lists_few : (q : Query) → IsBound select (catalog_of number tables) options q → length (lists_of q) ≤ 60
  lists_few = few_lists number tables shape select read.some_tables read.few_tables read_same options

  pub orders_few : (q : Query) → IsBound select (catalog_of number tables) options q → length (orders_of q) ≤ 60
  orders_few = few_orders number tables shape select read.some_tables read.few_tables read_same options
