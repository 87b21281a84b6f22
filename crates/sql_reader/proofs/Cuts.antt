-- The piece that is found at the front of a text stands there, and what stands there is found.
use Rattle.std.proofs.Common.{◌≡◌, ℕ, suc, ◌^◌, ◌<◌, Bool, true, false, cond, ltb, eqb-true, List, [], ◌∷◌, ◌++◌}
use Rattle.std.proofs.Common.{length, take, drop, Some, None, refl, sym, ap, subst, arith}
use Rattle.std.specs.Prelude.{◌==◌}
use Rattle.std.specs.List.{prefix_len, list_all}
use Rattle.std.proofs.lemmas.Bool.{ltb-true, lt-ltb, and_parts}
use Rattle.std.proofs.lemmas.Bool.Decides.{nat_tests}
use Rattle.std.proofs.lemmas.List.{take-append-drop}
use Rattle.orca_base.specs.Name.{begins_name, continues_name, has_name_form}
use Rattle.sql_reader.specs.Bytes.{is_digit}
use Rattle.sql_reader.specs.Pieces.{comment, name, integer, in_comment, spelling, number_from, EndsPiece}
use Rattle.sql_reader.specs.Pieces.{BeginsWithPiece}
use Rattle.sql_reader.specs.Cutting.{Cut, name_cut, begins_with, integer_cut, digits_cut, comment_cut, minus_cut}
use Rattle.sql_reader.proofs.Scans.{front_passes, front_ends, taken_again, left_again}

-- a found piece stands at the front
abbrev pub Sound : List ℕ → Cut → Type 0
Sound text None = Unit {0}
Sound text (Some p) = BeginsWithPiece text p.0 p.1

continues : (byte : ℕ) → begins_name byte ≡ true → continues_name byte ≡ true
continues byte h = grind (arith, nat_tests)

digit_continues : (byte : ℕ) → is_digit byte ≡ true → continues_name byte ≡ true
digit_continues byte h = grind (arith, nat_tests)

-- ---- names

name_form : (b : ℕ) (bytes : List ℕ) → begins_name b ≡ true → list_all continues_name bytes ≡ true
    → has_name_form (b ∷ bytes) ≡ true
name_form b bytes h k = rw (h, k) refl

pub name_sound : (b : ℕ) (bytes : List ℕ) → begins_name b ≡ true → Sound (b ∷ bytes) (name_cut (b ∷ bytes))
name_sound b bytes h =
    let k : prefix_len continues_name (b ∷ bytes) ≡ suc (prefix_len continues_name bytes) =
    rw (continues b h) (omega arith) in
    record {
      fits = rw k (name_form b (take (prefix_len continues_name bytes) bytes) h (front_passes continues_name bytes));
      stands = front_ends continues_name (b ∷ bytes);
      whole = sym (take-append-drop (prefix_len continues_name (b ∷ bytes)) (b ∷ bytes));
    }

form_continues : (text : List ℕ) → has_name_form text ≡ true → list_all continues_name text ≡ true
form_continues [] h = refl
form_continues (b ∷ text) h = let p = and_parts (begins_name b) (list_all continues_name text) h in
    rw (continues b p.0, p.1) refl

pub name_again : (text rest : List ℕ) → has_name_form text ≡ true → EndsPiece continues_name rest
    → name_cut (text ++ rest) ≡ Some (name text, rest)
name_again text rest h e =
    let p = form_continues text h in
    rw (taken_again continues_name text rest p e, left_again continues_name text rest p e) refl

-- ---- integers

not_followed : (rest : List ℕ) → begins_with continues_name rest ≡ false → EndsPiece continues_name rest
not_followed [] h = tt
not_followed (b ∷ rest) h = h

followed : (rest : List ℕ) → EndsPiece continues_name rest → begins_with continues_name rest ≡ false
followed [] h = refl
followed (b ∷ rest) h = h

-- what is in front of digits: the minus, or nothing
abbrev signed_text : Bool → List ℕ → List ℕ
signed_text true text = 45 ∷ text
signed_text false text = text

signed_spelling : (negative : Bool) (digits rest : List ℕ)
    → spelling (integer negative digits) ++ rest ≡ signed_text negative (digits ++ rest)
signed_spelling true digits rest = refl
signed_spelling false digits rest = refl

integer_sound_by : (negative : Bool) (digits rest : List ℕ) (a b : Bool) → ltb (number_from 0 digits) (2 ^ 63) ≡ a
    → begins_with continues_name rest ≡ b → 0 < length digits → list_all is_digit digits ≡ true
    → Sound (signed_text negative (digits ++ rest)) (cond a (cond b None (Some (integer negative digits, rest))) None)
integer_sound_by negative digits rest false b e f l h = tt
integer_sound_by negative digits rest true true e f l h = tt
integer_sound_by negative digits rest true false e f l h = record {
  fits = (l, h, ltb-true _ _ e);
  stands = not_followed rest f;
  whole = sym (signed_spelling negative digits rest);
}

integer_sound : (negative : Bool) (digits rest : List ℕ) → 0 < length digits → list_all is_digit digits ≡ true
    → Sound (signed_text negative (digits ++ rest)) (integer_cut negative digits rest)
integer_sound negative digits rest l h =
    integer_sound_by negative digits rest (ltb (number_from 0 digits) (2 ^ 63)) (begins_with continues_name rest) refl
    refl l h

pub digits_sound : (negative : Bool) (b : ℕ) (bytes : List ℕ) → is_digit b ≡ true
    → Sound (signed_text negative (b ∷ bytes)) (digits_cut negative (b ∷ bytes))
digits_sound negative b bytes h =
    let n = prefix_len is_digit (b ∷ bytes) in
    let k : prefix_len is_digit (b ∷ bytes) ≡ suc (prefix_len is_digit bytes) = rw h (omega arith) in
    let some : 0 < length (take n (b ∷ bytes)) = rw k (omega arith) in
    let s = integer_sound negative (take n (b ∷ bytes)) (drop n (b ∷ bytes)) some (front_passes is_digit (b ∷ bytes)) in
    subst (λ (t : List ℕ). Sound (signed_text negative t) (digits_cut negative (b ∷ bytes)))
    (take-append-drop n (b ∷ bytes)) s

integer_again : (negative : Bool) (digits rest : List ℕ) → number_from 0 digits < 2 ^ 63 → EndsPiece continues_name rest
    → integer_cut negative digits rest ≡ Some (integer negative digits, rest)
integer_again negative digits rest h e = rw (lt-ltb _ _ h, followed rest e) refl

ends_digits : (rest : List ℕ) → EndsPiece continues_name rest → EndsPiece is_digit rest
ends_digits [] e = tt
ends_digits (b ∷ rest) e = not_digit (is_digit b) refl
  where
    not_digit : (c : Bool) → is_digit b ≡ c → c ≡ false
    not_digit true h = let k = digit_continues b h in absurd cc
    not_digit false h = refl

pub digits_again : (negative : Bool) (digits rest : List ℕ) → list_all is_digit digits ≡ true
    → number_from 0 digits < 2 ^ 63 → EndsPiece continues_name rest
    → digits_cut negative (digits ++ rest) ≡ Some (integer negative digits, rest)
digits_again negative digits rest d h e =
    let f = ends_digits rest e in
    rw (taken_again is_digit digits rest d f, left_again is_digit digits rest d f)
    (integer_again negative digits rest h e)

-- ---- comments, and what a minus begins

pub comment_sound : (bytes : List ℕ) → Sound (45 ∷ 45 ∷ bytes) (comment_cut bytes)
comment_sound bytes = record {
  fits = front_passes in_comment bytes;
  stands = front_ends in_comment bytes;
  whole = ap (λ (t : List ℕ). 45 ∷ 45 ∷ t) (sym (take-append-drop (prefix_len in_comment bytes) bytes));
}

pub comment_again : (body rest : List ℕ) → list_all in_comment body ≡ true → EndsPiece in_comment rest
    → comment_cut (body ++ rest) ≡ Some (comment body, rest)
comment_again body rest h e = rw (taken_again in_comment body rest h e, left_again in_comment body rest h e) refl

minus_sound_by : (b : ℕ) (bytes : List ℕ) (m d : Bool) → (b == 45) ≡ m → is_digit b ≡ d
    → Sound (45 ∷ b ∷ bytes) (cond m (comment_cut bytes) (cond d (digits_cut true (b ∷ bytes)) None))
minus_sound_by b bytes true d e h = rw (eqb-true b 45 e) (comment_sound bytes)
minus_sound_by b bytes false true e h = digits_sound true b bytes h
minus_sound_by b bytes false false e h = tt

pub minus_sound : (bytes : List ℕ) → Sound (45 ∷ bytes) (minus_cut bytes)
minus_sound [] = tt
minus_sound (b ∷ bytes) = minus_sound_by b bytes (b == 45) (is_digit b) refl refl

digit_no_minus : (b : ℕ) → is_digit b ≡ true → (b == 45) ≡ false
digit_no_minus b h = grind (arith, nat_tests)

second_case : (m d : Bool) (x y z : Cut) → m ≡ false → d ≡ true → y ≡ z → cond m x (cond d y None) ≡ z
second_case true d x y z e h k = absurd cc
second_case false true x y z e h k = k
second_case false false x y z e h k = absurd cc

pub negative_again : (digits rest : List ℕ) → 0 < length digits → list_all is_digit digits ≡ true
    → number_from 0 digits < 2 ^ 63 → EndsPiece continues_name rest
    → minus_cut (digits ++ rest) ≡ Some (integer true digits, rest)
negative_again [] rest l d h e = absurd (omega arith)
negative_again (b ∷ digits) rest l d h e =
    let p = and_parts (is_digit b) (list_all is_digit digits) d in
    second_case (b == 45) (is_digit b) _ _ _ (digit_no_minus b p.0) p.0 (digits_again true (b ∷ digits) rest d h e)
