-- Laws of the bits of sets.
use Rattle.std.proofs.Common.{◌≡◌, ℕ, ◌+◌, ◌-◌, ◌*◌, ◌/◌, ◌%◌, ◌^◌, ◌<◌, ◌≤◌, max, min, arith, ap, ◌∙◌}
use Rattle.std.proofs.Common.{◌==◌}
use Rattle.std.specs.Prelude.{bit_and, bit_or, bit_xor, ◌≢◌}
use Rattle.std.specs.Int.{trailing_zeros, w32}
use Rattle.std.proofs.lemmas.Nat.Bits.{bit_at_and, bit_at_or, bit_at_xor, bit_at-lt, bit_at-zero, bit_at_set_same}
use Rattle.std.proofs.lemmas.Nat.Bits.{bit_at_set_other, bit_at-trailing_zeros, bit_at_ones, bit_at_ones_above}
use Rattle.std.proofs.lemmas.Nat.Bits.{bit_at_above, same_from_bits, and_pow, shr_and_one, bit_at-pow_same}
use Rattle.std.proofs.lemmas.Nat.Bits.{bit_at-pow_other}
use Rattle.std.proofs.Math.Pow.{pow-lt}
use Rattle.std.proofs.lemmas.Nat.{one_shl, or_disjoint}
use Rattle.query_core.specs.Sets.{bit, Has, IsLeast}

-- a bit is 0 or 1
pub bit-below : (set t : ℕ) → bit set t < 2
unfolding bit
bit-below set t = bit_at-lt set t

pub bit-or : (a b t : ℕ) → bit (bit_or a b) t ≡ max (bit a t) (bit b t)
unfolding bit
bit-or a b t = bit_at_or a b t

pub bit-and : (a b t : ℕ) → bit (bit_and a b) t ≡ min (bit a t) (bit b t)
unfolding bit
bit-and a b t = bit_at_and a b t

-- the tables of a set that are not in another
pub bit-difference : (a b t : ℕ) → bit (bit_xor a (bit_and a b)) t ≡ bit a t - bit b t
unfolding bit
bit-difference a b t = grind (arith, bit_at_xor a (bit_and a b) t, bit_at_and a b t, bit_at-lt a t, bit_at-lt b t)

-- the empty set has no table
pub bit-none : (t : ℕ) → bit 0 t ≡ 0
unfolding bit
bit-none t = bit_at-zero t

-- how the code reads a bit
pub bit-read : (set t : ℕ) → bit_and (set / 2 ^ t) 1 ≡ bit set t
unfolding bit
bit-read set t = shr_and_one set t

-- the code's way to add a table
pub bit-with : (set k : ℕ) → k < 32 → bit (bit_or set (1 * 2 ^ k % 2 ^ 32)) k ≡ 1
unfolding bit
bit-with set k within = bit_at_set_same w32 set k within

pub bit-with_other : (set k : ℕ) → k < 32 → (t : ℕ) → t ≢ k → bit (bit_or set (1 * 2 ^ k % 2 ^ 32)) t ≡ bit set t
unfolding bit
bit-with_other set k within t other = bit_at_set_other w32 set k within t other

-- the set of one table has that table
pub bit-one : (t : ℕ) → bit (2 ^ t) t ≡ 1
unfolding bit
bit-one t = bit_at-pow_same t

-- and no other
pub bit-one_other : (k t : ℕ) → t ≢ k → bit (2 ^ k) t ≡ 0
unfolding bit
bit-one_other k t other = bit_at-pow_other k t other

-- the first k tables
pub bit-first : (k t : ℕ) → t < k → bit (2 ^ k - 1) t ≡ 1
unfolding bit
bit-first k t below = bit_at_ones k t below

pub bit-after : (k t : ℕ) → k ≤ t → bit (2 ^ k - 1) t ≡ 0
unfolding bit
bit-after k t above = bit_at_ones_above k t above

-- a set of the first k tables has none from k on
pub bit-beyond : (set k t : ℕ) → set < 2 ^ k → k ≤ t → bit set t ≡ 0
unfolding bit
bit-beyond set k t small above = bit_at_above set k t small above

-- a set of 32 bits has no table from 32 on
pub has_below : (set t : ℕ) → set < 2 ^ 32 → Has set t → t < 32
has_below set t small has = grind (arith, bit-beyond set 32 t small)

-- where a set isn't empty, its trailing zeros are the place of its least table
pub least-found : (set : ℕ) → 0 < set → set < 2 ^ 32 → IsLeast set (trailing_zeros w32 set)
unfolding bit
least-found set some small =
    let found = bit_at-trailing_zeros w32 set some small in
    record {
      within = found.0;
      here = found.1;
      least = λ t has. grind (arith, found.2 t);
    }

-- to add a table that isn't there adds its power of two
pub one-grows : (set k : ℕ) → bit set k ≡ 0 → bit_or set (2 ^ k) ≡ set + 2 ^ k
unfolding bit
one-grows set k none =
    let apart : bit_and set (2 ^ k) ≡ 0 = omega (arith, and_pow set k, ap (λ b. b * 2 ^ k) none) in
    or_disjoint set (2 ^ k) apart

-- so does the code's way to add it
pub or-grows : (set k : ℕ) → k < 32 → bit set k ≡ 0 → bit_or set (1 * 2 ^ k % 2 ^ 32) ≡ set + 2 ^ k
or-grows set k within none =
    let power : 1 * 2 ^ k % 2 ^ 32 ≡ 2 ^ k = one_shl k 32 within in
    rw power (one-grows set k none)

-- the set of one of the first tables is one of their sets
pub power_below : (t count : ℕ) → t < count → 2 ^ t < 2 ^ count
power_below t count below = pow-lt below

-- two sets with the same tables are the same
pub same_tables : (a b : ℕ) → ((t : ℕ) → bit a t ≡ bit b t) → a ≡ b
unfolding bit
same_tables a b same = same_from_bits a b same

pub ruleset bits_of = (
  arith,
  bit-or,
  bit-and,
  bit-difference,
  bit-none,
  bit-read,
  bit-with,
  bit-with_other,
  bit-below,
  bit-beyond,
  or-grows,
  least-found,
)
