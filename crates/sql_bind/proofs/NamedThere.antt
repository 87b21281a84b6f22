-- The columns that a query names are there, and so they are used.
use Rattle.std.proofs.Common.{◌≡◌, true, List, [], ◌++◌, length}
use Rattle.std.proofs.Common.{Ok, refl, subst}
use Rattle.std.specs.List.{list_all}
use Rattle.query_core.specs.declared.catalog.Catalog.{Catalog}
use Rattle.query_core.specs.Catalog.{IsCatalog}
use Rattle.sql_reader.specs.declared.syntax.Select.{Select}
use Rattle.sql_bind.specs.declared.columns.Column.{Column}
use Rattle.sql_bind.specs.declared.parts.Parts.{Parts}
use Rattle.sql_bind.specs.Columns.{column_of, is_among}
use Rattle.sql_bind.specs.SelectList.{chosen_in}
use Rattle.sql_bind.specs.Conditions.{compared_in}
use Rattle.sql_bind.specs.SortKeys.{key_in}
use Rattle.sql_bind.specs.Parts.{parts_of}
use Rattle.sql_bind.specs.Used.{UsedColumn, listed_from, in_compared, named_by, named_by_chosen, named_by_compared}
use Rattle.sql_bind.specs.Used.{named_by_keys, used_by, used_from, wanted_by}
use Rattle.sql_bind.specs.UsedColumns.{AreUsedColumns}
use Rattle.sql_bind.specs.Grouping.{judged}
use Rattle.sql_reader.specs.Readable.{IsReadable}
use Rattle.sql_bind.specs.Binding.{binding}
use Rattle.orca_base.proofs.Checked.{all_pass, bind_ok, each_counts, each_keeps}
use Rattle.sql_bind.proofs.Resolving.{has_column}
use Rattle.sql_bind.proofs.Found.{IsAt, found_from, there_is}
use Rattle.sql_bind.proofs.ScopeKept.{AreFrom, scope_counts, scope_kept}
use Rattle.sql_bind.proofs.Among.{among_left, among_right}
use Rattle.sql_bind.proofs.ListedThere.{listed_there}
use Rattle.sql_bind.proofs.Wanted.{only_wanted}
use Rattle.sql_bind.proofs.Ascending.{ascend_from, only_number}
use Rattle.sql_bind.proofs.ChosenKept.{AreChosen, chosen_kept}
use Rattle.sql_bind.proofs.PredsKept.{AreUsed}
use Rattle.sql_bind.proofs.KeysKept.{is_target, keys_kept}
use Rattle.sql_bind.proofs.Truths.{all_both}
use Rattle.sql_bind.proofs.Named.{AreBound, AreJudged, compared_step, compared_there, group_step, judged_ok}
use Rattle.sql_bind.proofs.Named.{keys_there, parts_bound}

abbrev pub all_used : Parts → List UsedColumn
all_used p = used_from (wanted_by p) 0 p.scope

pub used_is : (p : Parts) → used_by p ≡ all_used p
unfolding used_by
used_is p = refl

-- the columns that the parts name are there and used, and the parts are as many as those of the select
pub record AreThere (select : Select) (p : Parts) : Type 0 where
  pub from : AreFrom p.scope
  pub list : AreChosen p.scope p.chosen
  pub targets : list_all (λ k. is_target p.scope p.chosen k.target) p.keys ≡ true
  pub tables_counted : length p.scope ≡ length select.from
  pub chosen_counted : length p.chosen ≡ length select.items
  pub preds_counted : length p.compared ≡ length select.preds
  pub group_counted : length p.group ≡ length select.group_by
  pub keys_counted : length p.keys ≡ length select.order_by
  pub chosen_used : AreUsed (all_used p) (named_by_chosen p.chosen)
  pub compared_used : AreUsed (all_used p) (named_by_compared p.compared)
  pub group_used : AreUsed (all_used p) p.group
  pub keys_used : AreUsed (all_used p) (named_by_keys p.keys)

module _ (select : Select) (catalog : Catalog) (p : Parts) (readable : IsReadable select) (kept : IsCatalog catalog)
    (bound : AreBound select catalog p) where
  from : AreFrom p.scope
  from = scope_kept catalog kept select.from p.scope readable.tables bound.scope

  list : AreChosen p.scope p.chosen
  list = chosen_kept p.scope select.items p.chosen readable.items bound.chosen

  targets : list_all (λ k. is_target p.scope p.chosen k.target) p.keys ≡ true
  targets = keys_kept p.scope p.chosen list.there select.order_by p.keys bound.keys

  all_compared : list_all (has_column 0 p.scope) (named_by_compared p.compared) ≡ true
  all_compared = compared_there p.scope p.compared
      (each_keeps (λ before pred. compared_in p.scope pred) (λ pred. true)
      (λ before. list_all (λ x. list_all (has_column 0 p.scope) (in_compared x)) before ≡ true) (compared_step p.scope)
      [] select.preds p.compared (all_pass select.preds) refl bound.compared)

  all_group : list_all (has_column 0 p.scope) p.group ≡ true
  all_group = each_keeps (λ before reference. column_of p.scope reference) (λ reference. true)
      (λ before. list_all (has_column 0 p.scope) before ≡ true) (group_step p.scope) [] select.group_by p.group
      (all_pass select.group_by) refl bound.group

  -- the columns that the query names are there, and so they are used
  named_there : list_all (has_column 0 p.scope) (named_by p) ≡ true
  named_there =
      let there = has_column 0 p.scope in
      all_both there ((named_by_chosen p.chosen ++ named_by_compared p.compared) ++ p.group) (named_by_keys p.keys)
      (all_both there (named_by_chosen p.chosen ++ named_by_compared p.compared) p.group
      (all_both there (named_by_chosen p.chosen) (named_by_compared p.compared) list.there all_compared) all_group)
      (keys_there p.scope p.chosen p.keys targets)

  named_used : AreUsed (all_used p) (named_by p)
  named_used c among =
      found_from (wanted_by p) c.table c.place 0 p.scope
      (there_is (has_column 0 p.scope) (named_by p) c named_there among)
      (among_left (named_by p) (listed_from 0 p.scope) c among)

  before_keys : (c : Column) → is_among ((named_by_chosen p.chosen ++ named_by_compared p.compared) ++ p.group) c ≡ true
      → IsAt (all_used p) c
  before_keys c among = named_used c (among_left ((named_by_chosen p.chosen ++ named_by_compared p.compared) ++ p.group)
      (named_by_keys p.keys) c among)

  before_group : (c : Column) → is_among (named_by_chosen p.chosen ++ named_by_compared p.compared) c ≡ true
      → IsAt (all_used p) c
  before_group c among = before_keys c (among_left (named_by_chosen p.chosen ++ named_by_compared p.compared) p.group c
      among)

  -- which columns are used
  columns_known : AreUsedColumns p (all_used p)
  columns_known =
      let ascending = ascend_from (wanted_by p) 0 p.scope in
      record {
        ascending = ascending;
        named = λ c among. (named_used c among).here;
        listed = λ c among. (found_from (wanted_by p) c.table c.place 0 p.scope
            (listed_there 0 p.scope c from.infos among)
            (among_right (named_by p) (listed_from 0 p.scope) c among)).here;
        only = λ c number here. only_wanted (named_by p) (listed_from 0 p.scope) p.scope number c here;
        one = λ c number here. only_number (all_used p) number c ascending here;
      }

  all_there : AreThere select p
  all_there =
      let chosen = named_by_chosen p.chosen in
      let compared = named_by_compared p.compared in
      record {
        from = from;
        list = list;
        targets = targets;
        tables_counted = scope_counts catalog select.from p.scope bound.scope;
        chosen_counted = each_counts (chosen_in p.scope) select.items p.chosen bound.chosen;
        preds_counted = each_counts (λ before pred. compared_in p.scope pred) select.preds p.compared bound.compared;
        group_counted = each_counts (λ before reference. column_of p.scope reference) select.group_by p.group
            bound.group;
        keys_counted = each_counts (λ before key. key_in p.scope p.chosen key) select.order_by p.keys bound.keys;
        chosen_used = λ c among. before_group c (among_left chosen compared c among);
        compared_used = λ c among. before_group c (among_right chosen compared c among);
        group_used = λ c among. before_keys c (among_right (chosen ++ compared) p.group c among);
        keys_used = λ c among. named_used c
            (among_right ((chosen ++ compared) ++ p.group) (named_by_keys p.keys) c among);
      }

-- the columns that the parts of a binding name are there
pub bound_there : (select : Select) (catalog : Catalog) (p : Parts) → IsReadable select → IsCatalog catalog
    → parts_of select catalog ≡ Ok p → AreThere select p
bound_there select catalog p readable kept e =
    all_there select catalog p readable kept (parts_bound select catalog p e)

-- a fact of parts that were judged and of all their used columns holds of a binding without a fault
pub of_binding : (select : Select) (catalog : Catalog) (p : Parts) (Fact : Parts → List UsedColumn → Type 0)
    → ((parts : Parts) → parts_of select catalog ≡ Ok parts → AreJudged parts → Fact parts (all_used parts))
    → binding select catalog ≡ Ok p → Fact p (used_by p)
unfolding binding
of_binding select catalog p Fact fact e =
    let parts = bind_ok (parts_of select catalog) judged p e in
    let good = judged_ok parts.0 p parts.2 in
    rw (used_is p) (subst (λ (q : Parts). Fact q (all_used q)) good.0 (fact parts.0 parts.1 good.1))

-- the used columns of a binding without a fault
pub columns_of_binding : (select : Select) (catalog : Catalog) (p : Parts) → IsReadable select → IsCatalog catalog
    → binding select catalog ≡ Ok p → AreUsedColumns p (used_by p)
columns_of_binding select catalog p readable kept = of_binding select catalog p AreUsedColumns
    (λ parts is good. columns_known select catalog parts readable kept (parts_bound select catalog parts is))
