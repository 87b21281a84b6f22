-- Which columns are used, and which numbers they have, without an order of work.
use Rattle.std.specs.Prelude.{◌≡◌, ℕ, Bool, true, List, [], ◌∷◌, ◌&&◌, ◌||◌, ◌==◌, ◌⊎◌, Some, option_map, slice_get}
use Rattle.std.specs.Prelude.{nat_lt, IsTrue}
use Rattle.std.specs.List.{list_all}
use Rattle.sql_bind.specs.declared.columns.Column.{Column}
use Rattle.sql_bind.specs.declared.parts.Parts.{Parts}
use Rattle.sql_bind.specs.Columns.{is_among}
use Rattle.sql_bind.specs.Used.{UsedColumn, listed_from, named_by}
use Rattle.sql_bind.specs.Numbers.{column_number}

-- the one is of an earlier table, or stands at an earlier place of one table of the catalogue
abbrev pub comes_before : UsedColumn → UsedColumn → Bool
comes_before u v = nat_lt u.which.table v.which.table || (u.which.table == v.which.table && nat_lt u.which.place
    v.which.place)

-- each comes before all that follow it
abbrev pub ascend : List UsedColumn → Bool
ascend [] = true
ascend (u ∷ us) = list_all (comes_before u) us && ascend us

-- the column has this number: it stands there among the used ones
abbrev pub HasNumber : List UsedColumn → Column → ℕ → Type 0
HasNumber used c number = option_map (λ u. u.which) (slice_get used number) ≡ Some c

-- the used columns ascend, each that the query names or that is in a list of its tables has one number, and no other
-- column has one
pub record AreUsedColumns (parts : Parts) (used : List UsedColumn) : Type 0 where
  pub ascending : IsTrue (ascend used)
  pub named : (c : Column) → IsTrue (is_among (named_by parts) c) → HasNumber used c (column_number used c)
  pub listed : (c : Column) → IsTrue (is_among (listed_from 0 parts.scope) c) → HasNumber used c (column_number used c)
  pub only : (c : Column) (number : ℕ) → HasNumber used c number → IsTrue (is_among (named_by parts) c)
      ⊎ IsTrue (is_among (listed_from 0 parts.scope) c)
  pub one : (c : Column) (number : ℕ) → HasNumber used c number → number ≡ column_number used c
