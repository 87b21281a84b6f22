-- Numbers are read as they are written.
use Rattle.std.proofs.Common.{◌≡◌, ◌≢◌, ℕ, ◌<◌, ◌^◌, ◌&&◌, ◌||◌, ◌==◌, Bool, true, false, not, cond, List, [], ◌∷◌}
use Rattle.std.proofs.Common.{length, get_or, nat_le, Option, None, Some, IfSome, Ok, Err, Result, bytes_eq, decimal}
use Rattle.std.proofs.Common.{refl, sym, ap, ◌∙◌, subst, arith, inl, inr}
use Rattle.std.specs.Result.{OkIff, result_ok}
use Rattle.std.specs.Str.Parse.{AllDigits, digits_value, ParsesUnsigned}
use Rattle.std.proofs.lemmas.Bool.{cases_eq, false≢true}
use Rattle.std.proofs.lemmas.Bool.Decides.{nat_tests}
use Rattle.std.proofs.lemmas.Fmt.{decimal_is_IsNumeral, decimal_digit, first_decimal, decimal-digits_value}
use Rattle.std.proofs.lemmas.Fmt.{parse-decimal}
use Rattle.std.proofs.lemmas.Slice.Eq.{bytes_eq-Decides}
use Rattle.std.proofs.lemmas.Str.Parse.{IsNumeralModel, numerals_by_value, tells_digits, parse_plain}
use Rattle.command_line.specs.Numbers.{IsWithin, IsNumber, is_written, number_within, is_plain}

-- ---- what is written is read

-- a number within the bounds is read from its word
pub number_read : (low high number : ℕ) → IsWithin low high number → number < 2 ^ 64
    → number_within low high (decimal number) ≡ Some number
number_read low high number within small =
    let value : digits_value 10 (decimal number) ≡ number = (decimal_is_IsNumeral number small).1 in
    let same : bytes_eq (decimal number) (decimal number) ≡ true =
    (bytes_eq-Decides (decimal number) (decimal number)).1 refl in
    let from : nat_le low number ≡ true = let l = within.from in grind (arith, nat_tests) in
    let to : nat_le number high ≡ true = let l = within.to in grind (arith, nat_tests) in
    rw (value, same, from, to) refl

-- ---- what is read is written so

record AreTrue (a b c : Bool) : Type 0 where
  first : a ≡ true
  second : b ≡ true
  third : c ≡ true

three_true : (a b c : Bool) → (a && b && c) ≡ true → AreTrue a b c
three_true true true true is = record { first = refl; second = refl; third = refl }
three_true true true false is = absurd (false≢true is)
three_true true false c is = absurd (false≢true is)
three_true false b c is = absurd (false≢true is)

-- a number that is read is what the word writes
pub number_spelled : (low high : ℕ) (word : List ℕ) (number : ℕ) → number_within low high word ≡ Some number
    → IsNumber low high number (word ∷ [])
number_spelled low high word number is = of_test (is_written low high (digits_value 10 word) word) refl is
  where
    of_written : (value : ℕ) → is_written low high value word ≡ true → IsNumber low high value (word ∷ [])
    of_written value passes =
        let tests = three_true (bytes_eq (decimal value) word) (nat_le low value) (nat_le value high) passes in
        record {
          within = record {
            from = let t = tests.second in grind (arith, nat_tests);
            to = let t = tests.third in
                grind (arith, nat_tests);
          };
          word = ap (λ w. w ∷ []) (sym ((bytes_eq-Decides (decimal value) word).0 tests.first));
        }

    of_test : (b : Bool) → is_written low high (digits_value 10 word) word ≡ b
        → cond b (Some (digits_value 10 word)) None ≡ Some number → IsNumber low high number (word ∷ [])
    of_test true passes found = let same : digits_value 10 word ≡ number = cc in
        subst (λ n. IsNumber low high n (word ∷ [])) same (of_written (digits_value 10 word) passes)
    of_test false fails found = cc

-- what gives exactly the number that is written reads it
pub reads_number : (low high : ℕ) (word : List ℕ) (read : Option ℕ) → high < 2 ^ 64
    → IfSome read (λ number. IsNumber low high number (word ∷ []))
    → ((number : ℕ) → IsNumber low high number (word ∷ []) → read ≡ Some number) → read ≡ number_within low high word
reads_number low high word None small found only = of_read (number_within low high word) refl
  where
    of_read : (o : Option ℕ) → number_within low high word ≡ o → None ≡ number_within low high word
    of_read None is = sym is
    of_read (Some number) is = let there = only number (number_spelled low high word number is) in cc
reads_number low high word (Some number) small found only =
    let same : word ≡ decimal number = let e = found.word in cc in
    sym (ap (number_within low high) same ∙ number_read low high number found.within
    (omega (arith, small, found.within.to)))

-- ---- numbers as they are parsed

own : IsNumeralModel (AllDigits 10) (digits_value 10)
own = numerals_by_value (AllDigits 10) tells_digits

-- the word of a number is plain
pub plain_decimal : (number : ℕ) → number < 2 ^ 64 → is_plain (decimal number) ≡ true
plain_decimal number small =
    elim (cases_eq number 0) [
      | inl none ↦ let zero : decimal 0 ≡ 48 ∷ [] = decimal_digit 0 (omega arith) in rw (none, zero) refl
      | inr some ↦ let first : 48 < get_or (decimal number) 0 0 = first_decimal number (omega (arith, some)) small in
          grind (arith, nat_tests)
    ]

-- what makes a word plain
record IsPlain (plus one zero : Bool) : Type 0 where
  no_plus : plus ≡ false
  alone : zero ≡ true → one ≡ true

plain_tests : (plus one zero : Bool) → (not plus && (one || not zero)) ≡ true → IsPlain plus one zero
plain_tests true one zero is = absurd (false≢true is)
plain_tests false true zero is = record { no_plus = refl; alone = λ there. refl }
plain_tests false false true is = absurd (false≢true is)
plain_tests false false false is = record { no_plus = refl; alone = λ there. absurd (false≢true there) }

-- a plain word from which a number is parsed is the word of that number
pub plain_parsed : {E : Type 0} (word : List ℕ) (number : ℕ) (read : Result ℕ E) → ParsesUnsigned 64 10 word read
    → read ≡ Ok number → is_plain word ≡ true → word ≡ decimal number
plain_parsed word number read parses is plain =
    let tests = plain_tests (get_or word 0 0 == 43) (length word == 1) (get_or word 0 0 == 48) plain in
    let no_plus : get_or word 0 0 ≢ 43 = let t = tests.no_plus in grind (arith, nat_tests) in
    let alone : get_or word 0 0 ≡ 48 → length word ≡ 1 = λ zero. let there : (get_or word 0 0 == 48) ≡ true =
    grind (arith, nat_tests) in let one = tests.alone there in grind (arith, nat_tests) in
    let told : (AllDigits 10 word × (0 < length word) × (digits_value 10 word < 2 ^ 64))
    × (number ≡ digits_value 10 word) =
    subst (λ r. OkIff r (AllDigits 10 word × (0 < length word) × (digits_value 10 word < 2 ^ 64))
    (digits_value 10 word)) is (parse_plain own 64 word read parses no_plus) in
    sym (ap decimal told.1 ∙ decimal-digits_value own word told.0.0 told.0.1 alone told.0.2)

-- what is parsed from a word, beside what the word writes
module _ {E : Type 0} (low high : ℕ) (word : List ℕ) (parsed : Result ℕ E) (parses : ParsesUnsigned 64 10 word parsed)
    (small : high < 2 ^ 64) where
  -- a number that the word writes is parsed
  written_parsed : (number : ℕ) → IsNumber low high number (word ∷ []) → (parsed ≡ Ok number) × (is_plain word ≡ true)
  written_parsed number is =
      let below : number < 2 ^ 64 = omega (arith, small, is.within.to) in
      let same : word ≡ decimal number = let e = is.word in cc in
      (parse-decimal 64 number word parsed below below same parses, ap is_plain same ∙ plain_decimal number below)

  -- where none is parsed the word writes none
  pub none_parsed : result_ok parsed ≡ None → None ≡ number_within low high word
  none_parsed none = reads_number low high word None small tt (λ number is. let ok : result_ok parsed ≡ Some number =
      ap result_ok (written_parsed number is).0 in cc)

  module _ (number : ℕ) (there : result_ok parsed ≡ Some number) where
    is_parsed : (r : Result ℕ E) → result_ok r ≡ Some number → r ≡ Ok number
    is_parsed (Ok other) is = let same : other ≡ number = cc in ap Ok same
    is_parsed (Err fault) is = cc

    -- one that is parsed from a plain word, within the bounds
    pub one_parsed : is_plain word ≡ true → IsWithin low high number → Some number ≡ number_within low high word
    one_parsed plain within =
        let same = plain_parsed word number parsed parses (is_parsed parsed there) plain in
        sym (ap (number_within low high) same ∙ number_read low high number within (omega (arith, small, within.to)))

    -- or from another word, or out of the bounds
    pub other_parsed : (is_plain word ≡ true → IsWithin low high number → ⊥) → None ≡ number_within low high word
    other_parsed none =
        reads_number low high word None small tt
        (λ written is. let parts = written_parsed written is in let same : written ≡ number =
        let ok : result_ok parsed ≡ Some written = ap result_ok parts.0 in cc in
        absurd (none parts.1 (subst (IsWithin low high) same is.within)))
