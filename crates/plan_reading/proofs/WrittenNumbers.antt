-- Numbers are read as they are written.
use Rattle.std.proofs.Common.{◌≡◌, ◌≢◌, ℕ, ◌<◌, ◌^◌, ◌&&◌, ◌||◌, ◌==◌, Bool, true, false, not, List, [], ◌∷◌}
use Rattle.std.proofs.Common.{length, get_or, None, Some, Ok, Err, Result, decimal}
use Rattle.std.proofs.Common.{refl, sym, ap, ◌∙◌, subst, arith, inl, inr}
use Rattle.std.specs.Result.{OkIff, result_ok}
use Rattle.std.specs.Str.Parse.{AllDigits, digits_value, ParsesUnsigned}
use Rattle.std.proofs.lemmas.Bool.{cases_eq, false≢true}
use Rattle.std.proofs.lemmas.Bool.Decides.{nat_tests}
use Rattle.std.proofs.lemmas.Fmt.{decimal_digit, first_decimal, decimal-digits_value}
use Rattle.std.proofs.lemmas.Fmt.{parse-decimal}
use Rattle.std.proofs.lemmas.Str.Parse.{IsNumeralModel, numerals_by_value, tells_digits, parse_plain}
use Rattle.plan_reading.specs.Reading.{is_plain}

own : IsNumeralModel (AllDigits 10) (digits_value 10)
own = numerals_by_value (AllDigits 10) tells_digits

-- what is written for a number is plain
plain_decimal : (number : ℕ) → number < 2 ^ 64 → is_plain (decimal number) ≡ true
plain_decimal number small =
    elim (cases_eq number 0) [
      | inl none ↦ let zero : decimal 0 ≡ 48 ∷ [] = decimal_digit 0 (omega arith) in rw (none, zero) refl
      | inr some ↦ let first : 48 < get_or (decimal number) 0 0 = first_decimal number (omega (arith, some)) small in
          grind (arith, nat_tests)
    ]

-- what makes a word plain
record IsPlain (plus one zero : Bool) : Type 0 where
  no_plus : plus ≡ false
  alone : zero ≡ true → one ≡ true

plain_tests : (plus one zero : Bool) → (not plus && (one || not zero)) ≡ true → IsPlain plus one zero
plain_tests true one zero is = absurd (false≢true is)
plain_tests false true zero is = record { no_plus = refl; alone = λ there. refl }
plain_tests false false true is = absurd (false≢true is)
plain_tests false false false is = record { no_plus = refl; alone = λ there. absurd (false≢true there) }

module _ {E : Type 0} (word : List ℕ) (parsed : Result ℕ E) (parses : ParsesUnsigned 64 10 word parsed) where
  -- a number that the word writes is parsed
  written_parsed : (number : ℕ) → number < 2 ^ 64 → word ≡ decimal number → parsed ≡ Ok number
  written_parsed number small same = parse-decimal 64 number word parsed small small same parses

  -- where none is parsed the word writes none
  pub none_written : result_ok parsed ≡ None → (number : ℕ) → number < 2 ^ 64 → word ≡ decimal number → ⊥
  none_written none number small same =
      let ok : result_ok parsed ≡ Some number = ap result_ok (written_parsed number small same) in absurd cc

  -- nor where the word isn't plain
  pub other_written : is_plain word ≡ false → (number : ℕ) → number < 2 ^ 64 → word ≡ decimal number → ⊥
  other_written other number small same =
      false≢true (sym other ∙ ap is_plain same ∙ plain_decimal number small)

  module _ (number : ℕ) (there : result_ok parsed ≡ Some number) where
    is_parsed : (r : Result ℕ E) → result_ok r ≡ Some number → r ≡ Ok number
    is_parsed (Ok other) is = let same : other ≡ number = cc in ap Ok same
    is_parsed (Err fault) is = absurd cc

    told : is_plain word ≡ true → (AllDigits 10 word × (0 < length word) × (digits_value 10 word < 2 ^ 64))
        × (number ≡ digits_value 10 word)
    told plain =
        let tests = plain_tests (get_or word 0 0 == 43) (length word == 1) (get_or word 0 0 == 48) plain in
        let no_plus : get_or word 0 0 ≢ 43 = let t = tests.no_plus in grind (arith, nat_tests) in
        subst (λ r. OkIff r (AllDigits 10 word × (0 < length word) × (digits_value 10 word < 2 ^ 64))
        (digits_value 10 word)) (is_parsed parsed there) (parse_plain own 64 word parsed parses no_plus)

    -- a plain word from which a number is parsed writes that number
    pub plain_written : is_plain word ≡ true → (word ≡ decimal number) × (number < 2 ^ 64)
    plain_written plain =
        let tests = plain_tests (get_or word 0 0 == 43) (length word == 1) (get_or word 0 0 == 48) plain in
        let alone : get_or word 0 0 ≡ 48 → length word ≡ 1 = λ zero. let is : (get_or word 0 0 == 48) ≡ true =
        grind (arith, nat_tests) in let one = tests.alone is in grind (arith, nat_tests) in
        let is = told plain in (
          sym (ap decimal is.1 ∙ decimal-digits_value own word is.0.0 is.0.1 alone is.0.2),
          subst (λ (n : ℕ). n < 2 ^ 64) (sym is.1) is.0.2,
        )
