-- The first bad byte of a text.
use Rattle.std.proofs.Common.{◌≡◌, ℕ, ◌+◌, ◌≤◌, ◌<◌, Bool, true, false, cond, leb, List, [], ◌∷◌, ◌++◌, length, Option}
use Rattle.std.proofs.Common.{Some, None, inl, inr, refl, sym, ap, subst, arith}
use Rattle.std.specs.Option.{option_or}
use Rattle.std.proofs.lemmas.Bool.{leb-true, leb-false}
use Rattle.sql_reader.specs.declared.faults.SqlFault.{SqlFault}
use Rattle.sql_reader.specs.declared.faults.SqlFault.TheVariants as faults
use Rattle.sql_reader.specs.Pieces.{is_control}
use Rattle.sql_reader.specs.Faults.{place}
use Rattle.sql_reader.specs.Outcome.{bad_byte, first_bad}
use Rattle.sql_reader.proofs.Parsed.{First}

-- of these faults none is there, or this is the first
abbrev pub IsLeast : (SqlFault → Type 0) → Option SqlFault → Type 0
IsLeast Has None = (g : SqlFault) → Has g → ⊥
IsLeast Has (Some f) = Has f × ((g : SqlFault) → Has g → First f g)

-- the byte, at its place, has the fault
abbrev pub IsBad : ℕ → ℕ → SqlFault → Type 0
IsBad at byte faults.TooLong = ⊥
IsBad at byte (faults.NotAscii p) = (at ≡ p) × (128 ≤ byte)
IsBad at byte (faults.Token p) = (at ≡ p) × (is_control byte ≡ true)
IsBad at byte (faults.Grammar p) = ⊥
IsBad at byte (faults.TooMany what p) = ⊥
IsBad at byte faults.Memory = ⊥

-- a byte of these, which begin at the place, has the fault
pub record HasBad (at : ℕ) (bytes : List ℕ) (f : SqlFault) : Type 0 where
  pub front : List ℕ
  pub byte : ℕ
  pub others : List ℕ
  pub whole : bytes ≡ front ++ byte ∷ others
  pub bad : IsBad (at + length front) byte f

place_of_bad : (at byte : ℕ) (f : SqlFault) → IsBad at byte f → place f ≡ at
place_of_bad at byte faults.TooLong h = absurd h
place_of_bad at byte (faults.NotAscii p) h = sym h.0
place_of_bad at byte (faults.Token p) h = sym h.0
place_of_bad at byte (faults.Grammar p) h = absurd h
place_of_bad at byte (faults.TooMany what p) h = absurd h
place_of_bad at byte faults.Memory h = absurd h

-- what the byte itself has
not_ascii_first : (at byte : ℕ) → 128 ≤ byte → (g : SqlFault) → IsBad at byte g → First (faults.NotAscii at) g
not_ascii_first at byte le faults.TooLong h = absurd h
not_ascii_first at byte le (faults.NotAscii p) h = inl (ap faults.NotAscii h.0)
not_ascii_first at byte le (faults.Token p) h = inr (inr (h.0, omega arith))
not_ascii_first at byte le (faults.Grammar p) h = absurd h
not_ascii_first at byte le (faults.TooMany what p) h = absurd h
not_ascii_first at byte le faults.Memory h = absurd h

control_first : (at byte : ℕ) → (128 ≤ byte → ⊥) → (g : SqlFault) → IsBad at byte g → First (faults.Token at) g
control_first at byte small faults.TooLong h = absurd h
control_first at byte small (faults.NotAscii p) h = absurd (small h.1)
control_first at byte small (faults.Token p) h = inl (ap faults.Token h.0)
control_first at byte small (faults.Grammar p) h = absurd h
control_first at byte small (faults.TooMany what p) h = absurd h
control_first at byte small faults.Memory h = absurd h

none_bad : (at byte : ℕ) → (128 ≤ byte → ⊥) → is_control byte ≡ false → (g : SqlFault) → IsBad at byte g → ⊥
none_bad at byte small calm faults.TooLong h = h
none_bad at byte small calm (faults.NotAscii p) h = small h.1
none_bad at byte small calm (faults.Token p) h = let k = h.1 in cc
none_bad at byte small calm (faults.Grammar p) h = h
none_bad at byte small calm (faults.TooMany what p) h = h
none_bad at byte small calm faults.Memory h = h

byte_least_by : (at byte : ℕ) (a c : Bool) → leb 128 byte ≡ a → is_control byte ≡ c
    → IsLeast (IsBad at byte) (cond a (Some (faults.NotAscii at)) (cond c (Some (faults.Token at)) None))
byte_least_by at byte true c e h = ((refl, leb-true _ _ e), not_ascii_first at byte (leb-true _ _ e))
byte_least_by at byte false true e h = let small : 128 ≤ byte → ⊥ =
    λ le. absurd (let k = leb-false _ _ e in omega (arith, k, le)) in ((refl, h), control_first at byte small)
byte_least_by at byte false false e h = let small : 128 ≤ byte → ⊥ =
    λ le. absurd (let k = leb-false _ _ e in omega (arith, k, le)) in none_bad at byte small h

byte_least : (at byte : ℕ) → IsLeast (IsBad at byte) (bad_byte at byte)
byte_least at byte = byte_least_by at byte (leb 128 byte) (is_control byte) refl refl

-- the first byte has it, or a later one
data Where (at byte : ℕ) (bytes : List ℕ) (g : SqlFault) : Type 0 where
  here : IsBad at byte g → Where at byte bytes g
  there : HasBad (at + 1) bytes g → at < place g → Where at byte bytes g

where_bad : (at byte : ℕ) (bytes : List ℕ) (g : SqlFault) → HasBad at (byte ∷ bytes) g → Where at byte bytes g
where_bad at byte bytes g h = by h.front h.whole h.bad
  where
    by : (front : List ℕ) → byte ∷ bytes ≡ front ++ h.byte ∷ h.others → IsBad (at + length front) h.byte g
        → Where at byte bytes g
    by [] e b =
        let same : byte ≡ h.byte = cc in
        let k : at + 0 ≡ at = omega arith in
        here (subst (λ (x : ℕ). IsBad at x g) (sym same) (rw k at b))
    by (x ∷ front) e b =
        let tail : bytes ≡ front ++ h.byte ∷ h.others = cc in
        let k : at + length (x ∷ front) ≡ (at + 1) + length front = omega arith in
        let p = place_of_bad (at + length (x ∷ front)) h.byte g b in
        there (record { front = front; byte = h.byte; others = h.others; whole = tail; bad = rw k at b })
        (omega (arith, p))

at_first : (at byte : ℕ) (bytes : List ℕ) (f : SqlFault) → IsBad at byte f → HasBad at (byte ∷ bytes) f
at_first at byte bytes f b = let k : at + 0 ≡ at = omega arith in
    record { front = []; byte = byte; others = bytes; whole = refl; bad = rw k b }

at_later : (at byte : ℕ) (bytes : List ℕ) (f : SqlFault) → HasBad (at + 1) bytes f → HasBad at (byte ∷ bytes) f
at_later at byte bytes f h =
    let k : at + length (byte ∷ h.front) ≡ (at + 1) + length h.front = omega arith in
    record {
      front = byte ∷ h.front;
      byte = h.byte;
      others = h.others;
      whole = ap (λ (bs : List ℕ). byte ∷ bs) h.whole;
      bad = rw k h.bad;
    }

least_by : (at byte : ℕ) (bytes : List ℕ) (o later : Option SqlFault) → IsLeast (IsBad at byte) o
    → IsLeast (HasBad (at + 1) bytes) later → IsLeast (HasBad at (byte ∷ bytes)) (option_or o later)
least_by at byte bytes (Some f) later l m = (at_first at byte bytes f l.0, λ g h. by g (where_bad at byte bytes g h))
  where
    by : (g : SqlFault) → Where at byte bytes g → First f g
    by g (here b) = l.1 g b
    by g (there h lt) = let p = place_of_bad at byte f l.0 in inr (inl (omega (arith, p, lt)))
least_by at byte bytes None (Some f) l m = (at_later at byte bytes f m.0, λ g h. by g (where_bad at byte bytes g h))
  where
    by : (g : SqlFault) → Where at byte bytes g → First f g
    by g (here b) = absurd (l g b)
    by g (there h lt) = m.1 g h
least_by at byte bytes None None l m = λ g h. by g (where_bad at byte bytes g h)
  where
    by : (g : SqlFault) → Where at byte bytes g → ⊥
    by g (here b) = l g b
    by g (there h lt) = m g h

pub bad_least : (at : ℕ) (bytes : List ℕ) → IsLeast (HasBad at bytes) (first_bad at bytes)
bad_least at [] = λ g h. none h.front h.byte h.others h.whole
  where
    none : (front : List ℕ) (byte : ℕ) (others : List ℕ) → [] ≡ front ++ byte ∷ others → ⊥
    none [] byte others e = cc
    none (x ∷ front) byte others e = cc
bad_least at (byte ∷ bytes) = least_by at byte bytes (bad_byte at byte) (first_bad (at + 1) bytes)
    (byte_least at byte) (bad_least (at + 1) bytes)
