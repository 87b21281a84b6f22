-- A query's names are bound over the tables that its FROM names as over all.
use Rattle.std.proofs.Common.{◌≡◌, ℕ, suc, ◌<◌, List, [], ◌∷◌, ◌++◌, filter, length, get_or, Result, Ok, Err, refl}
use Rattle.std.proofs.Common.{sym, ap, ◌∙◌, arith}
use Rattle.std.specs.List.{All}
use Rattle.std.specs.Str.{bytes_eq}
use Rattle.std.proofs.lemmas.List.Folds.{list_any_at}
use Rattle.query_core.specs.declared.catalog.TableInfo.{TableInfo}
use Rattle.query_core.specs.declared.catalog.Catalog.{Catalog}
use Rattle.query_core.specs.declared.options.Options.{Options}
use Rattle.query_core.specs.declared.query.Query.{Query}
use Rattle.sql_reader.specs.declared.syntax.FromItem.{FromItem}
use Rattle.sql_reader.specs.declared.syntax.Select.{Select}
use Rattle.sql_bind.specs.declared.parts.Parts.{Parts}
use Rattle.sql_bind.specs.Steps.{Binding, ◌>>=◌, each}
use Rattle.sql_bind.specs.Scope.{FromTable, aliased, from_table, info_of, scope_of}
use Rattle.sql_bind.specs.Columns.{columns_of}
use Rattle.sql_bind.specs.SelectList.{chosen_of}
use Rattle.sql_bind.specs.Conditions.{compared_of}
use Rattle.sql_bind.specs.SortKeys.{keys_of}
use Rattle.sql_bind.specs.Parts.{parts_of}
use Rattle.sql_bind.specs.Grouping.{judged}
use Rattle.sql_bind.specs.Binding.{binding, IsQueryOf, IsBound}
use Rattle.dump_replay.specs.Named.{is_named, named_catalog}
use Rattle.dump_replay.proofs.Filtered.{find_kept}

-- parts that are bound alike, one behind the other
each_alike : {E A X : Type 0} (f g : List A → X → Result A E) (before : List A) (xs : List X)
    → All (λ x. (b : List A) → f b x ≡ g b x) xs → each f before xs ≡ each g before xs
unfolding each
each_alike f g before [] alike = refl
each_alike {E} {A} {X} f g before (x ∷ xs) alike =
    ap (λ (r : Result A E). r >>= (λ y. each f (before ++ y ∷ []) xs)) (alike 0 x (omega arith) before)
    ∙ of_first (g before x) (λ more. each_alike f g more xs (λ k d near. alike (suc k) d (omega (arith, near))))
  where
    of_first : (r : Result A E) → ((more : List A) → each f more xs ≡ each g more xs)
        → (r >>= (λ y. each f (before ++ y ∷ []) xs)) ≡ (r >>= (λ y. each g (before ++ y ∷ []) xs))
    of_first (Ok y) rest = rest (before ++ y ∷ [])
    of_first (Err e) rest = refl

-- a table that FROM names is found as among all
table_alike : (from : List FromItem) (tables : List TableInfo) (k : ℕ) (d : FromItem) → k < length from
    → info_of (filter (is_named from) tables) (get_or from k d).table ≡ info_of tables (get_or from k d).table
unfolding info_of
table_alike from tables k d near =
    find_kept (λ t. bytes_eq t.name (get_or from k d).table) (is_named from) tables
    (λ t same. list_any_at (λ item. bytes_eq t.name item.table) from k d near same)

scope_alike : (select : Select) (catalog : Catalog)
    → scope_of (named_catalog select catalog) select.from ≡ scope_of catalog select.from
scope_alike select catalog =
    each_alike (from_table (named_catalog select catalog)) (from_table catalog) [] select.from
    (λ k d near before. ap (aliased before (get_or select.from k d)) (table_alike select.from catalog.tables k d near))

-- the clauses behind FROM
abbrev behind : Select → List FromTable → Binding Parts
behind select scope =
    chosen_of scope select.items >>= (λ chosen.
    compared_of scope select.preds >>= (λ compared.
    columns_of scope select.group_by >>= (λ group.
    keys_of scope chosen select.order_by >>= (λ keys.
    Ok (record { scope = scope; chosen = chosen; compared = compared; group = group; keys = keys })))))

parts_alike : (select : Select) (catalog : Catalog) → parts_of select (named_catalog select catalog) ≡ parts_of select catalog
unfolding parts_of
parts_alike select catalog = ap (λ (scope : Binding (List FromTable)). scope >>= behind select) (scope_alike select catalog)

pub binding_alike : (select : Select) (catalog : Catalog)
    → binding select (named_catalog select catalog) ≡ binding select catalog
unfolding binding
binding_alike select catalog = ap (λ (parts : Binding Parts). parts >>= judged) (parts_alike select catalog)

-- a query over numbered items depends on how many segments there are, and on nothing else of the catalogue
same_query : (parts : Parts) (a b : Catalog) (options : Options) (q : Query) → a.segments ≡ b.segments
    → IsQueryOf parts a options q → IsQueryOf parts b options q
same_query parts a b options q same is = record {
  segments = is.segments ∙ same;
  tables = is.tables;
  items = is.items;
  preds = is.preds;
  links = is.links;
  grouped = is.grouped;
  group_by = is.group_by;
  aggs = is.aggs;
  output = is.output;
  order = is.order;
  options = is.options;
}

pub bound_over_all : (select : Select) (catalog : Catalog) (options : Options) (q : Query)
    → IsBound select (named_catalog select catalog) options q → IsBound select catalog options q
bound_over_all select catalog options q is = record {
  parts = is.parts;
  no_fault = sym (binding_alike select catalog) ∙ is.no_fault;
  query = same_query is.parts (named_catalog select catalog) catalog options q refl is.query;
}

pub bound_over_named : (select : Select) (catalog : Catalog) (options : Options) (q : Query)
    → IsBound select catalog options q → IsBound select (named_catalog select catalog) options q
bound_over_named select catalog options q is = record {
  parts = is.parts;
  no_fault = binding_alike select catalog ∙ is.no_fault;
  query = same_query is.parts catalog (named_catalog select catalog) options q refl is.query;
}
