-- Counts of faults and of calls.
use Rattle.std.specs.Prelude.{ℕ, ◌+◌, ◌-◌, ◌^◌, if◌then◌else◌, nat_lt}

-- one more, and at the end of its type the same
abbrev pub next : ℕ → ℕ
next count = if nat_lt count (2 ^ 64 - 1) then count + 1 else count
