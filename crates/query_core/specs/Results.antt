-- What the output, the order and the options of a query keep.
use Rattle.std.specs.Prelude.{ℕ, Bool, false, List, ◌&&◌, ◌||◌, ◌==◌, ◌+◌, ◌-◌, ◌%◌, ◌≡◌, ◌≤◌, ◌<◌, length, map, nat_lt}
use Rattle.std.specs.Prelude.{nat_le, is_some, slice_get, IsTrue, if◌then◌else◌, option_to_list}
use Rattle.std.specs.List.{list_all, list_any}
use Rattle.std.specs.Option.{option_map_or}
use Rattle.orca_base.specs.Name.{has_name_form}
use Rattle.query_core.specs.Differ.{numbers_differ}
use Rattle.query_core.specs.declared.table.Item.{Item}
use Rattle.query_core.specs.declared.aggregate.Agg.{Agg}
use Rattle.query_core.specs.declared.output.OutItem.{OutItem}
use Rattle.query_core.specs.declared.output.OrderKey.{OrderKey}
use Rattle.query_core.specs.declared.options.Options.{Options}

-- the number is that of an item that the root has: a GROUP BY column or an aggregate in a grouped query, else any
-- column
abbrev pub is_root_item : List Item → Bool → List ℕ → List Agg → ℕ → Bool
is_root_item items grouped group_by aggs number =
    if grouped
    then list_any (λ column. column == number)
    group_by || (nat_le (length items) number && nat_lt number (length items + length aggs))
    else nat_lt number (length items)

-- a number that is an aggregate's is that of one with a name
abbrev pub is_named : List Item → List Agg → ℕ → Bool
is_named items aggs number =
    nat_lt number (length items) || option_map_or (λ agg. is_some agg.name) (slice_get aggs (number - length items))
    false

-- 1 to 60 items of the root, with names that have the form of one
pub record IsOutput (items : List Item) (grouped : Bool) (group_by : List ℕ) (aggs : List Agg) (output : List OutItem) :
    Type 0 where
  pub some : 1 ≤ length output
  pub few : length output ≤ 60
  pub of_root : IsTrue (list_all (λ out. is_root_item items grouped group_by aggs out.item) output)
  pub named : IsTrue (list_all (λ out. list_all has_name_form (option_to_list out.name)) output)

-- at most 8 distinct items of the root, where an aggregate has a name
pub record IsOrder (items : List Item) (grouped : Bool) (group_by : List ℕ) (aggs : List Agg) (order : List OrderKey) :
    Type 0 where
  pub few : length order ≤ 8
  pub of_root : IsTrue (list_all (λ key. is_root_item items grouped group_by aggs key.item) order)
  pub named : IsTrue (list_all (λ key. is_named items aggs key.item) order)
  pub apart : IsTrue (numbers_differ (map (λ key. key.item) order))

-- the rules that are off are among those with the numbers 2 to 14
pub record AreOptions (options : Options) : Type 0 where
  pub below : options.off < 32768
  pub expansion_on : options.off % 4 ≡ 0
