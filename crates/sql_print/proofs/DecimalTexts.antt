-- Decimal digits spell their number.
use Rattle.std.proofs.Common.{◌≡◌, ℕ, ◌+◌, ◌-◌, ◌*◌, ◌/◌, ◌%◌, ◌^◌, ◌<◌, ◌≤◌, true, List, [], ◌∷◌, ◌++◌, length, refl}
use Rattle.std.proofs.Common.{◌∙◌, arith}
use Rattle.std.specs.List.{list_all}
use Rattle.std.specs.Fmt.{decimal}
use Rattle.std.proofs.lemmas.Fmt.{decimal_by_steps}
use Rattle.std.proofs.lemmas.List.{length-append}
use Rattle.std.proofs.lemmas.List.Folds.{list_all-append}
use Rattle.std.proofs.lemmas.Bool.Decides.{nat_tests}
use Rattle.std.proofs.lemmas.Bool.{and_parts}
use Rattle.sql_reader.specs.Bytes.{is_digit}
use Rattle.sql_reader.specs.Pieces.{number_from}
use Rattle.sql_reader.specs.Spellable.{is_plain}

pub record Spells (n : ℕ) (digits : List ℕ) : Type 0 where
  pub some : 0 < length digits
  pub digits_are : list_all is_digit digits ≡ true
  pub number : number_from 0 digits ≡ n

number_more : (acc : ℕ) (digits : List ℕ) (d : ℕ)
    → number_from acc (digits ++ d ∷ []) ≡ number_from acc digits * 10 + (d - 48)
number_more acc [] d = refl
number_more acc (x ∷ digits) d = number_more (acc * 10 + (x - 48)) digits d

a_digit : (n : ℕ) → n < 10 → is_digit (48 + n) ≡ true
a_digit n h = grind (arith, nat_tests)

one_digit : (n : ℕ) → n < 10 → Spells n ((48 + n) ∷ [])
one_digit n h = record { some = omega arith; digits_are = rw (a_digit n h) refl; number = omega arith }

more_digits : (n : ℕ) (digits : List ℕ) → 10 ≤ n → Spells (n / 10) digits → Spells n (digits ++ ((48 + n % 10) ∷ []))
more_digits n digits le s =
    let d = a_digit (n % 10) (omega arith) in
    let all : list_all is_digit ((48 + n % 10) ∷ []) ≡ true = rw d refl in
    record {
      some = omega (arith, length-append digits ((48 + n % 10) ∷ []));
      digits_are = list_all-append is_digit digits ((48 + n % 10) ∷ []) ∙ (let a = s.digits_are in rw (a, all) refl);
      number = (let m = number_more 0 digits (48 + n % 10) in let k = s.number in omega (arith, m, k));
    }

pub decimal_spells : (n : ℕ) → n < 2 ^ 64 → Spells n (decimal n)
decimal_spells n h = decimal_by_steps Spells one_digit more_digits n h

digit_plain : (b : ℕ) → is_digit b ≡ true → is_plain b ≡ true
digit_plain b h = grind (arith, nat_tests)

pub digits_plain : (digits : List ℕ) → list_all is_digit digits ≡ true → list_all is_plain digits ≡ true
digits_plain [] h = refl
digits_plain (b ∷ digits) h = let p = and_parts (is_digit b) (list_all is_digit digits) h in
    rw (digit_plain b p.0, digits_plain digits p.1) refl
