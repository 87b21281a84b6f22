-- What a grouped query, and the number of its items, must keep.
use Rattle.std.specs.Prelude.{ℕ, Bool, List, [], ◌∷◌, ◌++◌, ◌+◌, ◌||◌, Option, None, Some, Ok, Err, length, flat_map}
use Rattle.std.specs.Prelude.{nat_le, nat_lt, if◌then◌else◌}
use Rattle.sql_bind.specs.declared.fault.BindFault.TheVariants.{NotGrouped, TooManyItems}
use Rattle.sql_bind.specs.declared.columns.Column.{Column}
use Rattle.sql_bind.specs.declared.select_list.What.{What}
use Rattle.sql_bind.specs.declared.select_list.What.TheVariants as whats
use Rattle.sql_bind.specs.declared.select_list.Chosen.{Chosen}
use Rattle.sql_bind.specs.declared.sort_keys.Target.{Target}
use Rattle.sql_bind.specs.declared.sort_keys.Target.TheVariants as targets
use Rattle.sql_bind.specs.declared.sort_keys.SortKey.{SortKey}
use Rattle.sql_bind.specs.declared.parts.Parts.{Parts}
use Rattle.sql_bind.specs.Steps.{Binding}
use Rattle.sql_bind.specs.Columns.{is_among}
use Rattle.sql_bind.specs.SelectList.{aggregates}
use Rattle.sql_bind.specs.Used.{used_by}

-- the query has a GROUP BY column or an aggregate
abbrev pub is_grouped : Parts → Bool
is_grouped parts = nat_le 1 (length parts.group) || nat_le 1 (aggregates parts.chosen)

-- the place of a column that is no GROUP BY column
abbrev pub loose_at : List Column → ℕ → Column → List ℕ
loose_at group at c = if is_among group c then [] else at ∷ []

abbrev pub loose_what : List Column → What → List ℕ
loose_what group (whats.Column at c) = loose_at group at c
loose_what group (whats.Aggregate number func arg) = []

abbrev pub loose_target : List Column → ℕ → Target → List ℕ
loose_target group at (targets.Column c) = loose_at group at c
loose_target group at (targets.Aggregate number) = []

-- the places of the plain columns of the select list, and of the column keys of ORDER BY, that are no GROUP BY columns
abbrev pub loose_chosen : List Column → List Chosen → List ℕ
loose_chosen group chosen = flat_map (λ c. loose_what group c.what) chosen

abbrev pub loose_keys : List Column → List SortKey → List ℕ
loose_keys group keys = flat_map (λ key. loose_target group key.at key.target) keys

unfoldable pub loose_places : Parts → List ℕ
loose_places parts = loose_chosen parts.group parts.chosen ++ loose_keys parts.group parts.keys

-- the first one
abbrev pub first_of : List ℕ → Option ℕ
first_of [] = None
first_of (at ∷ others) = Some at

-- how many items the query has
abbrev pub item_count : Parts → ℕ
item_count parts = length (used_by parts) + aggregates parts.chosen

-- a query has at most 60 items
abbrev pub sized : Parts → Binding Parts
sized parts = if nat_lt 60 (item_count parts) then Err (TooManyItems (item_count parts)) else Ok parts

-- the first of these places is refused
abbrev pub none_loose : Parts → Option ℕ → Binding Parts
none_loose parts (Some at) = Err (NotGrouped at)
none_loose parts None = sized parts

-- in a grouped query each plain column is a GROUP BY column; and no query has too many items
unfoldable pub judged : Parts → Binding Parts
judged parts = if is_grouped parts then none_loose parts (first_of (loose_places parts)) else sized parts
