-- How many tables a set has.
use Rattle.std.specs.Prelude.{ℕ, ◌+◌}
use Rattle.query_core.specs.Sets.{bit}

-- of the ten that a query can have
abbrev pub table_count : ℕ → ℕ
table_count set =
    bit set 0 + bit set 1 + bit set 2 + bit set 3 + bit set 4
    + bit set 5 + bit set 6 + bit set 7 + bit set 8 + bit set 9
