-- Words that are cut at a byte, and joined by it.
use Rattle.std.proofs.Common.{◌≡◌, ◌≢◌, ℕ, ◌<◌, ◌==◌, Bool, true, false, not, List, [], ◌∷◌, ◌++◌, length, get_or, nat_le}
use Rattle.std.proofs.Common.{refl, sym, ap, ◌∙◌, arith}
use Rattle.std.specs.List.{slice_split, join_with_byte, list_all, All}
use Rattle.std.proofs.lemmas.Bool.{and_parts, false≢true}
use Rattle.std.proofs.lemmas.Bool.Decides.{nat_tests}
use Rattle.std.proofs.lemmas.Grind.{get_or_default_zero}
use Rattle.std.proofs.lemmas.List.Folds.{list_all_at}
use Rattle.std.proofs.lemmas.List.Splits.{slice_split_none, slice_split_at}

-- ---- texts without a byte

-- each byte of the text is another one
abbrev pub AllOther : ℕ → List ℕ → Type 0
AllOther byte text = All (λ other. (other == byte) ≡ false) text

-- where no place has the byte
pub all_other : (byte : ℕ) (text : List ℕ) → ((i : ℕ) → i < length text → get_or text i 0 ≢ byte) → AllOther byte text
all_other byte text none = λ k d within. let differs : get_or text k d ≢ byte =
    λ same. none k within (sym (get_or_default_zero text k d within) ∙ same) in grind (arith, nat_tests)

-- the same as a test
abbrev pub Lacks : ℕ → List ℕ → Type 0
Lacks byte text = list_all (λ other. not (other == byte)) text ≡ true

pub other_where_lacking : (byte : ℕ) (text : List ℕ) → Lacks byte text → AllOther byte text
other_where_lacking byte text lacks = λ k d within. of_test (get_or text k d == byte) (get_or text k d) k d within refl
  where
    of_test : (b : Bool) (x : ℕ) (k d : ℕ) → k < length text → (get_or text k d == byte) ≡ b → b ≡ false
    of_test false x k d within is = refl
    of_test true x k d within is =
        absurd (false≢true (sym (list_all_at (λ other. not (other == byte)) text k d within (rw is refl)) ∙ lacks))

-- a text whose bytes are from 65 on has no lower one
pub above : (byte : ℕ) → byte < 65 → (text : List ℕ) → list_all (nat_le 65) text ≡ true → Lacks byte text
above byte low [] high = refl
above byte low (first ∷ more) high =
    let parts = and_parts (nat_le 65 first) (list_all (nat_le 65) more) high in
    let differs : (first == byte) ≡ false = let from = parts.0 in grind (arith, nat_tests) in
    rw (differs, above byte low more parts.1) refl

-- ---- parts

-- a text without the byte is one part
pub one_part : (byte : ℕ) (text : List ℕ) → AllOther byte text
    → slice_split (λ other. other == byte) text ≡ text ∷ []
one_part byte text others = slice_split_none (λ other. other == byte) text others

-- the first part ends in front of the byte
pub first_part : (byte : ℕ) (word first more : List ℕ) → word ≡ first ++ byte ∷ more → AllOther byte first
    → slice_split (λ other. other == byte) word ≡ first ∷ slice_split (λ other. other == byte) more
first_part byte word first more parts others =
    let same : (byte == byte) ≡ true = grind (arith, nat_tests) in
    rw parts (slice_split_at (λ other. other == byte) first byte more others same)

-- none of the texts has the byte
abbrev pub AllLack : ℕ → List (List ℕ) → Type 0
AllLack byte [] = Unit {0}
AllLack byte (text ∷ more) = Lacks byte text × AllLack byte more

-- texts that are joined by a byte that none has are the parts
pub parts_joined : (byte : ℕ) (first : List ℕ) (more : List (List ℕ)) → AllLack byte (first ∷ more)
    → slice_split (λ other. other == byte) (join_with_byte byte (first ∷ more)) ≡ first ∷ more
parts_joined byte first [] lack = one_part byte first (other_where_lacking byte first lack.0)
parts_joined byte first (second ∷ more) lack =
    first_part byte (join_with_byte byte (first ∷ second ∷ more)) first (join_with_byte byte (second ∷ more)) refl
    (other_where_lacking byte first lack.0)
    ∙ ap (λ parts. first ∷ parts) (parts_joined byte second more lack.1)
