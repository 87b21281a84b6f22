use Rattle.std.proofs.Common.{arith}
use Rattle.sql_reader.proofs.Numbers.{too_large}
use Rattle.sql_reader.proofs.pieces.magnitude.Goals as goal

-- ten times the number passes 2 ^ 64, and it only grows from there
pub returns-in_err-checked_mul : goal.returns-in_err-checked_mul
returns-in_err-checked_mul c =
    let e = too_large c.args.digits.now c.loop-digit.digit-index c.loop-digit.number c.loop-digit-test.true
    c.loop-digit.invariant (omega (arith, c.in_err-checked_mul.ensures)) in
    cc

-- and so with the digit
pub returns-in_err-number : goal.returns-in_err-number
returns-in_err-number c =
    let e = too_large c.args.digits.now c.loop-digit.digit-index c.loop-digit.number c.loop-digit-test.true
    c.loop-digit.invariant (omega (arith, c.in_err-number.ensures, c.in_ok-checked_mul.ensures)) in
    cc
