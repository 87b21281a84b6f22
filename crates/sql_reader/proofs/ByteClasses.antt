-- What a byte's class says of it.
use Rattle.std.proofs.Common.{◌≡◌, ℕ, ◌≤◌, ◌≢◌, Bool, true, false, cond, refl, arith, eqb-true}
use Rattle.std.proofs.lemmas.Bool.{eqb-false}
use Rattle.std.specs.Prelude.{◌==◌}
use Rattle.std.proofs.lemmas.Bool.Decides.{nat_tests}
use Rattle.orca_base.specs.Name.{begins_name}
use Rattle.sql_reader.specs.declared.classes.Class.{Class}
use Rattle.sql_reader.specs.declared.classes.Class.TheVariants as classes
use Rattle.sql_reader.specs.Bytes.{is_blank, is_digit, is_sign, class_of}

-- what the class says
abbrev pub IsOf : ℕ → Class → Type 0
IsOf byte classes.Blank = is_blank byte ≡ true
IsOf byte classes.Letter = begins_name byte ≡ true
IsOf byte classes.Digit = is_digit byte ≡ true
IsOf byte classes.Quote = byte ≡ 39
IsOf byte classes.Minus = byte ≡ 45
IsOf byte classes.Sign = is_sign byte ≡ true
IsOf byte classes.Bad = (is_sign byte ≡ false) × (byte ≢ 39) × (byte ≢ 45)

pub class_says : (byte : ℕ) → IsOf byte (class_of byte)
class_says byte = by_blank (is_blank byte) refl
  where
    by_sign : (f : Bool) → is_sign byte ≡ f → byte ≢ 39 → byte ≢ 45 → IsOf byte (cond f classes.Sign classes.Bad)
    by_sign true h q m = h
    by_sign false h q m = (h, q, m)

    by_minus : (e : Bool) → (byte == 45) ≡ e → byte ≢ 39
        → IsOf byte (cond e classes.Minus (cond (is_sign byte) classes.Sign classes.Bad))
    by_minus true h q = eqb-true byte 45 h
    by_minus false h q = by_sign (is_sign byte) refl q (eqb-false byte 45 h)

    by_quote : (d : Bool) → (byte == 39) ≡ d
        → IsOf byte (cond d classes.Quote
        (cond (byte == 45) classes.Minus (cond (is_sign byte) classes.Sign classes.Bad)))
    by_quote true h = eqb-true byte 39 h
    by_quote false h = by_minus (byte == 45) refl (eqb-false byte 39 h)

    by_digit : (c : Bool) → is_digit byte ≡ c
        → IsOf byte (cond c classes.Digit
        (cond (byte == 39) classes.Quote
        (cond (byte == 45) classes.Minus (cond (is_sign byte) classes.Sign classes.Bad))))
    by_digit true h = h
    by_digit false h = by_quote (byte == 39) refl

    by_letter : (b : Bool) → begins_name byte ≡ b
        → IsOf byte (cond b classes.Letter
        (cond (is_digit byte) classes.Digit
        (cond (byte == 39) classes.Quote
        (cond (byte == 45) classes.Minus (cond (is_sign byte) classes.Sign classes.Bad)))))
    by_letter true h = h
    by_letter false h = by_digit (is_digit byte) refl

    by_blank : (a : Bool) → is_blank byte ≡ a
        → IsOf byte (cond a classes.Blank
        (cond (begins_name byte) classes.Letter
        (cond (is_digit byte) classes.Digit
        (cond (byte == 39) classes.Quote
        (cond (byte == 45) classes.Minus (cond (is_sign byte) classes.Sign classes.Bad))))))
    by_blank true h = h
    by_blank false h = by_letter (begins_name byte) refl

-- ---- and the class that a byte has

letter_large : (byte : ℕ) → begins_name byte ≡ true → 65 ≤ byte
letter_large byte h = grind (arith, nat_tests)

digit_within : (byte : ℕ) → is_digit byte ≡ true → (48 ≤ byte) × (byte ≤ 57)
digit_within byte h = grind (arith, nat_tests)

not_blank : (byte : ℕ) → 33 ≤ byte → is_blank byte ≡ false
not_blank byte h = grind (arith, nat_tests)

not_letter : (byte : ℕ) → byte ≤ 64 → begins_name byte ≡ false
not_letter byte h = grind (arith, nat_tests)

not_digit : (byte : ℕ) → byte ≤ 47 → is_digit byte ≡ false
not_digit byte h = grind (arith, nat_tests)

pub blank_class : (byte : ℕ) → is_blank byte ≡ true → class_of byte ≡ classes.Blank
blank_class byte h = rw h refl

pub letter_class : (byte : ℕ) → begins_name byte ≡ true → class_of byte ≡ classes.Letter
letter_class byte h = let b = not_blank byte (omega (arith, letter_large byte h)) in rw (b, h) refl

pub digit_class : (byte : ℕ) → is_digit byte ≡ true → class_of byte ≡ classes.Digit
digit_class byte h =
    let w = digit_within byte h in
    let b = not_blank byte (omega (arith, w.0)) in
    let l = not_letter byte (omega (arith, w.1)) in
    rw (b, l, h) refl

sign_within : (byte : ℕ) → is_sign byte ≡ true → (33 ≤ byte) × (byte ≤ 62) × (byte ≢ 39) × (byte ≢ 45)
sign_within byte h = (
  grind (arith, nat_tests),
  grind (arith, nat_tests),
  λ e. grind (arith, nat_tests),
  λ e. grind
      (arith, nat_tests),
)

sign_no_digit : (byte : ℕ) → is_sign byte ≡ true → is_digit byte ≡ false
sign_no_digit byte h = grind (arith, nat_tests)

not_equal : (a b : ℕ) → a ≢ b → (a == b) ≡ false
not_equal a b h = grind (arith, nat_tests)

pub sign_class : (byte : ℕ) → is_sign byte ≡ true → class_of byte ≡ classes.Sign
sign_class byte h =
    let w = sign_within byte h in
    let b = not_blank byte (omega (arith, w.0)) in
    let l = not_letter byte (omega (arith, w.1)) in
    let d = sign_no_digit byte h in
    let q = not_equal byte 39 w.2 in
    let m = not_equal byte 45 w.3 in
    rw (b, l, d, q, m, h) refl
