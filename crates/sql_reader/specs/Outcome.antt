-- The answer to a text, from its first bad byte, the place where no token begins, and what the parser says.
use Rattle.std.specs.Prelude.{ℕ, ◌+◌, ◌-◌, nat_lt, nat_le, if◌then◌else◌, List, [], ◌∷◌, length, Option, Some, None}
use Rattle.std.specs.Prelude.{Result, Ok, Err}
use Rattle.std.specs.Option.{option_or}
use Rattle.sql_reader.specs.declared.faults.SqlFault.{SqlFault}
use Rattle.sql_reader.specs.declared.faults.SqlFault.TheVariants as faults
use Rattle.sql_reader.specs.declared.syntax.Select.{Select}
use Rattle.sql_reader.specs.Pieces.{is_control}
use Rattle.sql_reader.specs.Steps.{Stopped, unexpected, too_many, next_place}
use Rattle.sql_reader.specs.Faults.{place}

-- the fault of a byte at a place
abbrev pub bad_byte : ℕ → ℕ → Option SqlFault
bad_byte at byte = if nat_le 128 byte then Some (faults.NotAscii at) else
    (if is_control byte then Some (faults.Token at) else None)

-- the first fault of a byte, in bytes that begin at the place
abbrev pub first_bad : ℕ → List ℕ → Option SqlFault
first_bad at [] = None
first_bad at (byte ∷ bytes) = option_or (bad_byte at byte) (first_bad (at + 1) bytes)

-- where bytes are left, no token begins there
abbrev pub stuck_at : List ℕ → ℕ → Option SqlFault
stuck_at [] len = None
stuck_at (byte ∷ rest) len = Some (faults.Token (len - length (byte ∷ rest)))

-- the second fault where it stands before the first
abbrev pub sooner : Option SqlFault → SqlFault → SqlFault
sooner None second = second
sooner (Some first) second = if nat_lt (place second) (place first) then second else first

-- the earlier of two faults, where there are any
abbrev pub earlier : Option SqlFault → Option SqlFault → Option SqlFault
earlier first None = first
earlier first (Some second) = Some (sooner first second)

-- the fault where the parser stopped
abbrev pub fault_at : Stopped → ℕ → SqlFault
fault_at (unexpected rest) end = faults.Grammar (next_place rest end)
fault_at (too_many what rest) end = faults.TooMany what (next_place rest end)

-- the query, unless a fault stands before its end
abbrev pub accepted : Option SqlFault → Select → Result Select SqlFault
accepted None select = Ok select
accepted (Some fault) select = Err fault

-- what the parser says, or a fault that stands before it
abbrev pub outcome : Option SqlFault → Result Select Stopped → ℕ → Result Select SqlFault
outcome before (Ok select) end = accepted before select
outcome before (Err stopped) end = Err (sooner before (fault_at stopped end))
