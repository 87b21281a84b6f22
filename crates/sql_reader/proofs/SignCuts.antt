-- A symbol that is found stands there, and one that stands there is found.
use Rattle.std.proofs.Common.{◌≡◌, ℕ, Bool, true, false, cond, List, [], ◌∷◌, ◌++◌, Option, Some, None, refl, arith}
use Rattle.std.proofs.Common.{rules}
use Rattle.std.specs.Prelude.{is_some, IsSome}
use Rattle.std.specs.Option.{option_or}
use Rattle.std.proofs.lemmas.Bool.Decides.{nat_tests}
use Rattle.sql_reader.specs.Bytes.{is_sign}
use Rattle.sql_reader.specs.Words.{short_symbol, long_symbol, symbol_of}
use Rattle.sql_reader.specs.Pieces.{sign, EndsPiece}
use Rattle.sql_reader.specs.Cutting.{short_cut, sign_cut}
use Rattle.sql_reader.proofs.Cuts.{Sound}

some_of : {A : Type 0} (o : Option A) → is_some o ≡ true → IsSome o
some_of None h = absurd cc
some_of (Some a) h = search rules

is_some_of : {A : Type 0} (o : Option A) → IsSome o → is_some o ≡ true
is_some_of None h = absurd (search rules)
is_some_of (Some a) h = refl

short_sound_by : (b : ℕ) (rest : List ℕ) (s : Bool) → is_some (short_symbol b) ≡ s
    → EndsPiece (λ byte. is_some (symbol_of ((b ∷ []) ++ byte ∷ []))) rest
    → Sound (b ∷ rest) (cond s (Some (sign (b ∷ []), rest)) None)
short_sound_by b rest true h e = record { fits = some_of (short_symbol b) h; stands = e; whole = refl }
short_sound_by b rest false h e = tt

ends_long : (b c : ℕ) (rest : List ℕ) → EndsPiece (λ byte. is_some (symbol_of ((b ∷ c ∷ []) ++ byte ∷ []))) rest
ends_long b c [] = tt
ends_long b c (d ∷ rest) = refl

long_sound_by : (b c : ℕ) (rest : List ℕ) (l : Bool) → is_some (long_symbol b c) ≡ l
    → Sound (b ∷ c ∷ rest) (option_or (cond l (Some (sign (b ∷ c ∷ []), rest)) None) (short_cut b (c ∷ rest)))
long_sound_by b c rest true h = record { fits = some_of (long_symbol b c) h; stands = ends_long b c rest; whole = refl }
long_sound_by b c rest false h = short_sound_by b (c ∷ rest) (is_some (short_symbol b)) refl h

pub sign_sound : (bytes : List ℕ) → Sound bytes (sign_cut bytes)
sign_sound [] = tt
sign_sound (b ∷ []) = short_sound_by b [] (is_some (short_symbol b)) refl tt
sign_sound (b ∷ c ∷ rest) = long_sound_by b c rest (is_some (long_symbol b c)) refl

pub sign_again : (symbol rest : List ℕ) → IsSome (symbol_of symbol)
    → EndsPiece (λ byte. is_some (symbol_of (symbol ++ byte ∷ []))) rest
    → sign_cut (symbol ++ rest) ≡ Some (sign symbol, rest)
sign_again [] rest h e = absurd (search rules)
sign_again (b ∷ []) [] h e = let k = is_some_of (short_symbol b) h in rw k refl
sign_again (b ∷ []) (c ∷ rest) h e = let k = is_some_of (short_symbol b) h in rw (e, k) refl
sign_again (b ∷ c ∷ []) rest h e = let k = is_some_of (long_symbol b c) h in rw k refl
sign_again (b ∷ c ∷ d ∷ symbol) rest h e = absurd (search rules)

short_sign : (b : ℕ) → is_some (short_symbol b) ≡ true → is_sign b ≡ true
short_sign b h = grind (arith, nat_tests)

long_sign : (b c : ℕ) → is_some (long_symbol b c) ≡ true → is_sign b ≡ true
long_sign b c h = grind (arith, nat_tests)

-- a symbol begins with a byte of its class
pub symbol_begins : (b : ℕ) (symbol : List ℕ) → IsSome (symbol_of (b ∷ symbol)) → is_sign b ≡ true
symbol_begins b [] h = short_sign b (is_some_of (short_symbol b) h)
symbol_begins b (c ∷ []) h = long_sign b c (is_some_of (long_symbol b c) h)
symbol_begins b (c ∷ d ∷ symbol) h = absurd (search rules)
