-- What the grouping of a query keeps.
use Rattle.std.specs.Prelude.{ℕ, Bool, true, false, List, ◌≡◌, ◌&&◌, ◌||◌, ◌+◌, ◌≤◌, length, nat_lt, nat_le, IsTrue}
use Rattle.std.specs.Prelude.{option_to_list, filter_map, is_some, is_none, if◌then◌else◌}
use Rattle.std.specs.List.{list_all}
use Rattle.orca_base.specs.Name.{has_name_form}
use Rattle.query_core.specs.Differ.{numbers_differ, texts_differ}
use Rattle.query_core.specs.declared.table.Item.{Item}
use Rattle.query_core.specs.declared.aggregate.Agg.{Agg}
use Rattle.query_core.specs.declared.aggregate.AggFunc as functions
use Rattle.query_core.specs.declared.aggregate.AggFunc.{AggFunc}

-- whether the function goes over a column
abbrev pub takes_column : AggFunc → Bool
takes_column functions.TheVariants.CountAll = false
takes_column functions.TheVariants.Count = true
takes_column functions.TheVariants.Sum = true
takes_column functions.TheVariants.Min = true
takes_column functions.TheVariants.Max = true

-- the argument is an item exactly where the function takes one
abbrev pub has_argument : List Item → Agg → Bool
has_argument items agg =
    if takes_column agg.func then is_some agg.arg && list_all (λ number. nat_lt number (length items))
    (option_to_list agg.arg) else is_none agg.arg

-- the output names that aggregates have
abbrev pub names_of : List Agg → List (List ℕ)
names_of aggs = filter_map (λ agg. agg.name) aggs

-- at most 8 distinct columns and some aggregates over items, at most 60 columns and aggregates together; grouped where
-- there is any
pub record IsGrouping (items : List Item) (grouped : Bool) (group_by : List ℕ) (aggs : List Agg) : Type 0 where
  pub marked : grouped ≡ (nat_le 1 (length group_by) || nat_le 1 (length aggs))
  pub few : length group_by ≤ 8
  pub columns : IsTrue (list_all (λ number. nat_lt number (length items)) group_by)
  pub apart : IsTrue (numbers_differ group_by)
  pub arguments : IsTrue (list_all (has_argument items) aggs)
  pub named : IsTrue (list_all has_name_form (names_of aggs))
  pub names_apart : IsTrue (texts_differ (names_of aggs))
  pub items_fit : length items + length aggs ≤ 60
