-- Sets of tables, each given as a number in which the bit of a table's place is set.
use Rattle.std.specs.Prelude.{ℕ, Bool, not, ◌&&◌, Option, None, Some, is_none, if◌then◌else◌, ◌≡◌, ◌==◌, ◌<◌, ◌≤◌, ◌^◌}
use Rattle.std.specs.Prelude.{◌≢◌}
use Rattle.std.specs.Int.{bit_at, trailing_zeros, w32}

-- 1 where the set has the table, else 0
unfoldable pub bit : ℕ → ℕ → ℕ
bit set table = bit_at set table

-- the set has the table
abbrev pub Has : ℕ → ℕ → Type 0
Has set table = bit set table ≡ 1

-- new has the table, and of the other tables those that set has
pub record Adds (set table new : ℕ) : Type 0 where
  pub this : bit new table ≡ 1
  pub others : (t : ℕ) → t ≢ table → bit new t ≡ bit set t

-- the table is in the set, and no lesser one is
pub record IsLeast (set table : ℕ) : Type 0 where
  pub within : table < 32
  pub here : Has set table
  pub least : (t : ℕ) → Has set t → table ≤ t

-- the one table of a set that has no other
abbrev pub only_of : ℕ → Option ℕ
only_of set = let least = trailing_zeros w32 set in if set == 2 ^ least then Some least else None

-- the set has two tables or more
abbrev pub is_several : ℕ → Bool
is_several set = not (set == 0) && is_none (only_of set)
