-- The number that digits spell.
use Rattle.std.proofs.Common.{◌≡◌, ℕ, ◌+◌, ◌-◌, ◌*◌, ◌^◌, ◌<◌, ◌≤◌, false, List, [], ◌∷◌, length, get_or, drop, None}
use Rattle.std.proofs.Common.{refl, arith, ltb, drop-cons, add-one}
use Rattle.std.proofs.lemmas.Bool.{le-ltb}
use Rattle.sql_reader.specs.Pieces.{number_from}
use Rattle.sql_reader.specs.Cutting.{magnitude_of}

pub number_grows : (n : ℕ) (digits : List ℕ) → n ≤ number_from n digits
number_grows n [] = omega arith
number_grows n (d ∷ digits) = let h = number_grows (n * 10 + (d - 48)) digits in omega (arith, h)

-- the number with the next digit
pub next_number : (digits : List ℕ) (i n : ℕ) → i < length digits
    → number_from n (drop i digits) ≡ number_from (n * 10 + (get_or digits i 0 - 48)) (drop (i + 1) digits)
next_number digits i n lt = rw (add-one, drop-cons digits i 0) refl

pub too_large : (digits : List ℕ) (i n : ℕ) → i < length digits → number_from n (drop i digits) ≡ number_from 0 digits
    → 2 ^ 64 ≤ n * 10 + (get_or digits i 0 - 48) → magnitude_of digits ≡ None
too_large digits i n lt so_far large =
    let grows = number_grows (n * 10 + (get_or digits i 0 - 48)) (drop (i + 1) digits) in
    let test : ltb (number_from 0 digits) (2 ^ 63) ≡ false =
    le-ltb _ _ (omega (arith, grows, next_number digits i n lt, so_far, large)) in
    rw test refl
