-- What the tables of FROM keep: aliases that differ, and what the catalogue says.
use Rattle.std.proofs.Common.{◌≡◌, ℕ, suc, ◌≤◌, ◌+◌, Bool, true, false, cond, List, [], ◌∷◌, ◌++◌, length, map, find}
use Rattle.std.proofs.Common.{◌&&◌, not, is_some, nat_le, unwrap_or, option_to_list, Option, Some, None, Ok, refl, ap, subst, arith}
use Rattle.std.specs.List.{list_all, AllByRecursion}
use Rattle.std.specs.Str.{bytes_eq}
use Rattle.std.specs.Cmp.Lexicographic.{nat_list_eq_equiv}
use Rattle.std.proofs.lemmas.List.{map_push}
use Rattle.std.proofs.lemmas.Bool.Decides.{nat_tests}
use Rattle.orca_base.specs.Name.{has_name_form}
use Rattle.std.proofs.lemmas.List.Elements.{recursion_from_All}
use Rattle.std.proofs.lemmas.Bool.{and_from, and_parts}
use Rattle.sql_bind.proofs.Truths.{all_push}
use Rattle.query_core.specs.Differ.{all_differ}
use Rattle.query_core.proofs.Apart.{differ_push}
use Rattle.query_core.specs.Tables.{AreTables, is_placed_once}
use Rattle.query_core.specs.declared.catalog.Placing.{Placing}
use Rattle.query_core.specs.declared.catalog.Placing.TheVariants.{Hashed, Random, Replicated}
use Rattle.query_core.specs.declared.catalog.Catalog.{Catalog}
use Rattle.query_core.specs.declared.catalog.TableInfo.{TableInfo}
use Rattle.query_core.specs.Catalog.{IsTable, IsCatalog}
use Rattle.sql_reader.specs.declared.syntax.FromItem.{FromItem}
use Rattle.sql_bind.specs.declared.fault.BindFault.TheVariants.{TwiceAlias}
use Rattle.sql_bind.specs.Scope.{FromTable, alias_at, alias_of, aliased, aliases, from_table, has_alias, info_of}
use Rattle.sql_bind.specs.Scope.{scope_of}
use Rattle.sql_bind.specs.Used.{UsedColumn}
use Rattle.sql_bind.specs.Query.{hashed_of, is_replicated, table_of, tables_from}
use Rattle.sql_reader.specs.Readable.{is_named, is_table}
use Rattle.orca_base.proofs.Checked.{each_counts, each_keeps, not_met}

-- P holds of one more element
pub recursion_push : {A : Type 0} (P : A → Type 0) (xs : List A) (x : A) → AllByRecursion P xs → P x
    → AllByRecursion P (xs ++ x ∷ [])
recursion_push P [] x all one = (one, tt)
recursion_push P (y ∷ ys) x all one = (all.0, recursion_push P ys x all.1 one)

pub record AreFrom (scope : List FromTable) : Type 0 where
  pub named : list_all (λ t. has_name_form t.alias) scope ≡ true
  pub infos : AllByRecursion (λ t. IsTable t.info) scope
  pub differ : all_differ bytes_eq (aliases scope) ≡ true

found_case : (table info : TableInfo) (b : Bool) (rest : Option TableInfo) → cond b (Some table) rest ≡ Some info
    → IsTable table → (rest ≡ Some info → IsTable info) → IsTable info
found_case table info true rest e is later = let same : table ≡ info = cc in subst IsTable same is
found_case table info false rest e is later = later e

found_is : (test : TableInfo → Bool) (tables : List TableInfo) (info : TableInfo) → find test tables ≡ Some info
    → AllByRecursion IsTable tables → IsTable info
found_is test [] info e all = absurd cc
found_is test (table ∷ tables) info e all =
    found_case table info (test table) (find test tables) e all.0 (λ later. found_is test tables info later all.1)

-- what a catalogue says of a table of this name
pub info_is : (catalog : Catalog) → IsCatalog catalog → (name : List ℕ) (info : TableInfo)
    → info_of catalog.tables name ≡ Some info → IsTable info
unfolding info_of
info_is catalog kept name info found = found_is (λ t. bytes_eq t.name name) catalog.tables info found
    (recursion_from_All IsTable catalog.tables kept.each_table)

alias_named : (alias : Option (List ℕ)) (name : List ℕ) → has_name_form name ≡ true
    → list_all has_name_form (option_to_list alias) ≡ true → has_name_form (unwrap_or alias name) ≡ true
alias_named None name named all = named
alias_named (Some alias) name named all = (and_parts (has_name_form alias) true all).0

one_more : (before : List FromTable) (item : FromItem) (found : Option TableInfo) (t : FromTable) → AreFrom before
    → is_table item ≡ true
    → ((info : TableInfo) → found ≡ Some info → IsTable info) → aliased before item found ≡ Ok t
    → AreFrom (before ++ t ∷ [])
unfolding has_alias
one_more before item None t so_far good is e = absurd cc
one_more before item (Some info) t so_far good is e =
    let made : FromTable = record { alias = alias_of item; info = info } in
    let fresh = not_met (has_alias before (alias_of item)) (TwiceAlias (alias_at item)) made t e in
    let names = and_parts (has_name_form item.table) (is_named item.alias) good in
    subst (λ (x : FromTable). AreFrom (before ++ x ∷ [])) fresh.1 (record {
      named = all_push (λ (x : FromTable). has_name_form x.alias) before made so_far.named
          (alias_named item.alias item.table names.0 names.1);
      infos = recursion_push (λ (x : FromTable). IsTable x.info) before made so_far.infos (is info refl);
      differ = rw (map_push (λ (x : FromTable). x.alias) before made)
          (differ_push bytes_eq nat_list_eq_equiv.symm (aliases before) made.alias so_far.differ fresh.0);
    })

table_step : (catalog : Catalog) → IsCatalog catalog → (before : List FromTable) (item : FromItem) (t : FromTable)
    → AreFrom before → is_table item ≡ true → from_table catalog before item ≡ Ok t → AreFrom (before ++ t ∷ [])
table_step catalog kept before item t so_far good e =
    one_more before item (info_of catalog.tables item.table) t so_far good (info_is catalog kept item.table) e

-- what the tables of FROM keep
pub scope_kept : (catalog : Catalog) → IsCatalog catalog → (from : List FromItem) (scope : List FromTable)
    → list_all is_table from ≡ true → scope_of catalog from ≡ Ok scope → AreFrom scope
scope_kept catalog kept from scope good e =
    each_keeps (from_table catalog) is_table AreFrom (table_step catalog kept) [] from scope good
    (record { named = refl; infos = tt; differ = refl }) e

pub scope_counts : (catalog : Catalog) (from : List FromItem) (scope : List FromTable)
    → scope_of catalog from ≡ Ok scope → length scope ≡ length from
scope_counts catalog from scope e = each_counts (from_table catalog) from scope e

-- ---- the tables of the query

pub at_most : (a b : ℕ) → a ≤ b → nat_le a b ≡ true
at_most a b le = grind (arith, nat_tests)

module _ (used : List UsedColumn) where
  pub as_many : (base : ℕ) (scope : List FromTable) → length (tables_from used base scope) ≡ length scope
  as_many base [] = refl
  as_many base (t ∷ ts) = ap suc (as_many (base + 1) ts)

  same_aliases : (base : ℕ) (scope : List FromTable)
      → map (λ table. table.alias) (tables_from used base scope) ≡ aliases scope
  same_aliases base [] = refl
  same_aliases base (t ∷ ts) = ap (λ (names : List (List ℕ)). t.alias ∷ names) (same_aliases (base + 1) ts)

  all_named : (base : ℕ) (scope : List FromTable) → list_all (λ t. has_name_form t.alias) scope ≡ true
      → list_all (λ table. has_name_form table.alias) (tables_from used base scope) ≡ true
  all_named base [] all = refl
  all_named base (t ∷ ts) all =
      let parts = and_parts (has_name_form t.alias) (list_all (λ x. has_name_form x.alias) ts) all in
      and_from (has_name_form t.alias) (list_all (λ table. has_name_form table.alias) (tables_from used (base + 1) ts))
      parts.0 (all_named (base + 1) ts parts.1)

  few_rows : (base : ℕ) (scope : List FromTable) → AllByRecursion (λ t. IsTable t.info) scope
      → list_all (λ table. nat_le table.rows 1000000000000) (tables_from used base scope) ≡ true
  few_rows base [] all = refl
  few_rows base (t ∷ ts) all =
      and_from (nat_le t.info.rows 1000000000000)
      (list_all (λ table. nat_le table.rows 1000000000000) (tables_from used (base + 1) ts))
      (at_most t.info.rows 1000000000000 all.0.counted) (few_rows (base + 1) ts all.1)

  -- what lies on each segment has no hash
  placed_once : (table : ℕ) (placing : Placing)
      → not (is_replicated placing && is_some (hashed_of used table placing)) ≡ true
  placed_once table (Hashed places) = refl
  placed_once table Random = refl
  placed_once table Replicated = refl

  all_placed_once : (base : ℕ) (scope : List FromTable) → list_all is_placed_once (tables_from used base scope) ≡ true
  all_placed_once base [] = refl
  all_placed_once base (t ∷ ts) = and_from (is_placed_once (table_of used base t))
      (list_all is_placed_once (tables_from used (base + 1) ts)) (placed_once base t.info.placing)
      (all_placed_once (base + 1) ts)

  -- they are tables of a query
  pub are_tables : (scope : List FromTable) → AreFrom scope → 1 ≤ length scope → length scope ≤ 10
      → AreTables (tables_from used 0 scope)
  are_tables scope kept some few = record {
    some = rw (as_many 0 scope) some;
    few = rw (as_many 0 scope) few;
    named = all_named 0 scope kept.named;
    apart = rw (same_aliases 0 scope) kept.differ;
    rows_fit = few_rows 0 scope kept.infos;
    placed = all_placed_once 0 scope;
  }
