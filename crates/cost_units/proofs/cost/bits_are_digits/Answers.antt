use Rattle.std.proofs.Common.{◌≡◌, arith}
use Rattle.std.proofs.lemmas.Nat.{leading_length}
use Rattle.cost_units.specs.Cost.{bits}
use Rattle.cost_units.proofs.cost.bits_are_digits.Goals as goal

-- the places of 64 that are not zeros in front are the digits
pub returns : goal.returns
returns c = λ n fits.
    let length = leading_length 64 n fits in
    let same : bits n ≡ length.0 = omega (arith, length.1) in
    record { enough = rw same length.2; needed = rw same length.3 }
