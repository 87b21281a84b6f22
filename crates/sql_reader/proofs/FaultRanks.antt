-- Faults of bytes, and which fault counts at one place.
use Rattle.std.proofs.Common.{◌≡◌, ℕ, ◌≤◌, List}
use Rattle.std.proofs.Common.{◌⊎◌, inl, inr, ap, arith}
use Rattle.sql_reader.specs.declared.tokens.Token.{Token}
use Rattle.sql_reader.specs.declared.faults.SqlFault.{SqlFault}
use Rattle.sql_reader.specs.declared.faults.SqlFault.TheVariants as faults
use Rattle.sql_reader.specs.Faults.{IsStuck, place, rank}
use Rattle.sql_reader.proofs.Parsed.{IsTokenFault, First}
use Rattle.sql_reader.proofs.BadBytes.{HasBad}

abbrev pub IsStuckFault : List ℕ → SqlFault → Type 0
IsStuckFault text faults.TooLong = ⊥
IsStuckFault text (faults.NotAscii at) = ⊥
IsStuckFault text (faults.Token at) = IsStuck text at
IsStuckFault text (faults.Grammar at) = ⊥
IsStuckFault text (faults.TooMany what at) = ⊥
IsStuckFault text faults.Memory = ⊥

-- a byte's fault, or where no token begins
abbrev pub IsByteFault : List ℕ → SqlFault → Type 0
IsByteFault text f = HasBad 0 text f ⊎ IsStuckFault text f

-- ---- at one place

pub stuck_tie : (text : List ℕ) (f g : SqlFault) → HasBad 0 text f → IsStuckFault text g → place f ≡ place g → First f g
stuck_tie text faults.TooLong g h k e = absurd h.bad
stuck_tie text (faults.Grammar p) g h k e = absurd h.bad
stuck_tie text (faults.TooMany what p) g h k e = absurd h.bad
stuck_tie text faults.Memory g h k e = absurd h.bad
stuck_tie text (faults.NotAscii p) faults.TooLong h k e = absurd k
stuck_tie text (faults.NotAscii p) (faults.NotAscii at) h k e = absurd k
stuck_tie text (faults.NotAscii p) (faults.Token at) h k e = inr (inr (e, omega arith))
stuck_tie text (faults.NotAscii p) (faults.Grammar at) h k e = absurd k
stuck_tie text (faults.NotAscii p) (faults.TooMany what at) h k e = absurd k
stuck_tie text (faults.NotAscii p) faults.Memory h k e = absurd k
stuck_tie text (faults.Token p) faults.TooLong h k e = absurd k
stuck_tie text (faults.Token p) (faults.NotAscii at) h k e = absurd k
stuck_tie text (faults.Token p) (faults.Token at) h k e = inl (ap faults.Token e)
stuck_tie text (faults.Token p) (faults.Grammar at) h k e = absurd k
stuck_tie text (faults.Token p) (faults.TooMany what at) h k e = absurd k
stuck_tie text (faults.Token p) faults.Memory h k e = absurd k

bad_rank : (text : List ℕ) (f : SqlFault) → HasBad 0 text f → rank f ≤ 2
bad_rank text faults.TooLong h = omega arith
bad_rank text (faults.NotAscii p) h = omega arith
bad_rank text (faults.Token p) h = omega arith
bad_rank text (faults.Grammar p) h = absurd h.bad
bad_rank text (faults.TooMany what p) h = absurd h.bad
bad_rank text faults.Memory h = absurd h.bad

stuck_rank : (text : List ℕ) (f : SqlFault) → IsStuckFault text f → rank f ≤ 2
stuck_rank text faults.TooLong h = omega arith
stuck_rank text (faults.NotAscii p) h = omega arith
stuck_rank text (faults.Token p) h = omega arith
stuck_rank text (faults.Grammar p) h = absurd h
stuck_rank text (faults.TooMany what p) h = absurd h
stuck_rank text faults.Memory h = absurd h

pub byte_rank : (text : List ℕ) (f : SqlFault) → IsByteFault text f → rank f ≤ 2
byte_rank text f (inl h) = bad_rank text f h
byte_rank text f (inr h) = stuck_rank text f h

pub token_rank : (tokens : List Token) (rest : List ℕ) (len : ℕ) (g : SqlFault) → IsTokenFault tokens rest len g
    → 3 ≤ rank g
token_rank tokens rest len faults.TooLong h = absurd h
token_rank tokens rest len (faults.NotAscii p) h = absurd h
token_rank tokens rest len (faults.Token p) h = absurd h
token_rank tokens rest len (faults.Grammar p) h = omega arith
token_rank tokens rest len (faults.TooMany what p) h = omega arith
token_rank tokens rest len faults.Memory h = absurd h
