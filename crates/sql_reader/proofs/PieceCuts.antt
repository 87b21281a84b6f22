-- The piece that is found at the front of a text stands there, and what stands there is found.
use Rattle.std.proofs.Common.{◌≡◌, ℕ, ◌<◌, true, false, List, [], ◌∷◌, ◌++◌, length, Some, None, refl, sym, ap, subst}
use Rattle.std.proofs.Common.{◌∙◌, arith}
use Rattle.std.specs.List.{list_all}
use Rattle.std.proofs.lemmas.List.{length-append}
use Rattle.std.proofs.lemmas.Bool.{and_parts}
use Rattle.orca_base.specs.Name.{begins_name, continues_name}
use Rattle.sql_reader.specs.declared.classes.Class.{Class}
use Rattle.sql_reader.specs.declared.classes.Class.TheVariants as classes
use Rattle.sql_reader.specs.Bytes.{is_digit, class_of}
use Rattle.sql_reader.specs.Pieces.{Piece, blank, comment, name, integer, quoted, sign, doubled, spelling, Fits, Stands}
use Rattle.sql_reader.specs.Pieces.{BeginsWithPiece, Are, IsCut}
use Rattle.sql_reader.specs.Cutting.{Cut, cut_by, piece_cut}
use Rattle.sql_reader.proofs.ByteClasses.{IsOf, class_says, blank_class, letter_class, digit_class, sign_class}
use Rattle.sql_reader.proofs.Cuts.{Sound, name_sound, name_again, digits_sound, digits_again, minus_sound}
use Rattle.sql_reader.proofs.Cuts.{comment_again, negative_again}
use Rattle.sql_reader.proofs.QuotedCuts.{quoted_sound, quoted_again}
use Rattle.sql_reader.proofs.SignCuts.{sign_sound, sign_again, symbol_begins}

sound_by : (class : Class) (b : ℕ) (bytes : List ℕ) → IsOf b class → Sound (b ∷ bytes) (cut_by class b bytes)
sound_by classes.Blank b bytes h = record { fits = h; stands = tt; whole = refl }
sound_by classes.Letter b bytes h = name_sound b bytes h
sound_by classes.Digit b bytes h = digits_sound false b bytes h
sound_by classes.Quote b bytes h = rw h (quoted_sound bytes)
sound_by classes.Minus b bytes h = rw h (minus_sound bytes)
sound_by classes.Sign b bytes h = sign_sound (b ∷ bytes)
sound_by classes.Bad b bytes h = tt

pub piece_sound : (text : List ℕ) → Sound text (piece_cut text)
unfolding piece_cut
piece_sound [] = tt
piece_sound (b ∷ bytes) = sound_by (class_of b) b bytes (class_says b)

by_class : (b : ℕ) (bytes : List ℕ) (class : Class) (cut : Cut) → class_of b ≡ class → cut_by class b bytes ≡ cut
    → cut_by (class_of b) b bytes ≡ cut
by_class b bytes class cut e h = ap (λ (k : Class). cut_by k b bytes) e ∙ h

spelled_again : (piece : Piece) (rest : List ℕ) → Fits piece → Stands piece rest
    → piece_cut (spelling piece ++ rest) ≡ Some (piece, rest)
unfolding piece_cut
spelled_again (blank b) rest f s = by_class b rest classes.Blank _ (blank_class b f) refl
spelled_again (comment body) rest f s =
    by_class 45 (45 ∷ (body ++ rest)) classes.Minus _ refl (comment_again body rest f s)
spelled_again (name []) rest f s = absurd cc
spelled_again (name (b ∷ text)) rest f s =
    by_class b (text ++ rest) classes.Letter _
    (letter_class b (and_parts (begins_name b) (list_all continues_name text) f).0) (name_again (b ∷ text) rest f s)
spelled_again (integer true digits) rest f s =
    by_class 45 (digits ++ rest) classes.Minus _ refl (negative_again digits rest f.0 f.1 f.2 s)
spelled_again (integer false []) rest f s = absurd (omega (arith, f.0))
spelled_again (integer false (b ∷ digits)) rest f s =
    by_class b (digits ++ rest) classes.Digit _
    (digit_class b (and_parts (is_digit b) (list_all is_digit digits) f.1).0)
    (digits_again false (b ∷ digits) rest f.1 f.2 s)
spelled_again (quoted text) rest f s =
    by_class 39 ((doubled text ++ 39 ∷ []) ++ rest) classes.Quote _ refl (quoted_again text rest s)
spelled_again (sign []) rest f s = absurd cc
spelled_again (sign (b ∷ symbol)) rest f s =
    by_class b (symbol ++ rest) classes.Sign _ (sign_class b (symbol_begins b symbol f))
    (sign_again (b ∷ symbol) rest f s)

pub piece_again : (text : List ℕ) (piece : Piece) (rest : List ℕ) → BeginsWithPiece text piece rest
    → piece_cut text ≡ Some (piece, rest)
piece_again text piece rest h = ap piece_cut h.whole ∙ spelled_again piece rest h.fits h.stands

pub found_stands : (text : List ℕ) (piece : Piece) (rest : List ℕ) → piece_cut text ≡ Some (piece, rest)
    → BeginsWithPiece text piece rest
found_stands text piece rest e = subst (λ (cut : Cut). Sound text cut) e (piece_sound text)

pub none_stands : (text : List ℕ) → piece_cut text ≡ None → (piece : Piece) (rest : List ℕ)
    → BeginsWithPiece text piece rest → ⊥
none_stands text e piece rest h = let k = piece_again text piece rest h in absurd cc

-- ---- a text has one cut

pub spelled_some : (piece : Piece) → Fits piece → 0 < length (spelling piece)
spelled_some (blank b) f = omega arith
spelled_some (comment body) f = omega arith
spelled_some (name []) f = absurd cc
spelled_some (name (b ∷ text)) f = omega arith
spelled_some (integer true digits) f = omega arith
spelled_some (integer false digits) f = f.0
spelled_some (quoted text) f = omega arith
spelled_some (sign []) f = absurd cc
spelled_some (sign (b ∷ symbol)) f = omega arith

-- a piece takes bytes
pub shorter : (text : List ℕ) (piece : Piece) (rest : List ℕ) → BeginsWithPiece text piece rest
    → length rest < length text
shorter text piece rest h = let k = spelled_some piece h.fits in
    omega (arith, k, ap length h.whole, length-append (spelling piece) rest)

-- one piece more
pub are_more : (pieces : List Piece) (text mid : List ℕ) (piece : Piece) (rest : List ℕ) → Are pieces text mid
    → BeginsWithPiece mid piece rest → Are (pieces ++ piece ∷ []) text rest
are_more [] text mid piece rest a h = (rest, rw a h, refl)
are_more (p ∷ pieces) text mid piece rest a h = (a.0, a.1, are_more pieces a.0 mid piece rest a.2 h)

same_found : (p q : Piece × List ℕ) (c : Cut) → c ≡ Some p → c ≡ Some q → p ≡ q
same_found p q c e f = cc

pub same_pieces : (text : List ℕ) (ps qs : List Piece) (r s : List ℕ) → IsCut text ps r → IsCut text qs s
    → (ps ≡ qs) × (r ≡ s)
same_pieces text [] [] r s c d = (refl, sym c.are ∙ d.are)
same_pieces text [] (q ∷ qs) r s c d =
    absurd (c.no_more q d.are.0 (subst (λ (t : List ℕ). BeginsWithPiece t q d.are.0) c.are d.are.1))
same_pieces text (p ∷ ps) [] r s c d =
    absurd (d.no_more p c.are.0 (subst (λ (t : List ℕ). BeginsWithPiece t p c.are.0) d.are c.are.1))
same_pieces text (p ∷ ps) (q ∷ qs) r s c d =
    let e = same_found (p, c.are.0) (q, d.are.0) (piece_cut text) (piece_again text p c.are.0 c.are.1)
    (piece_again text q d.are.0 d.are.1) in
    let same_rest : c.are.0 ≡ d.are.0 = ap (λ (x : Piece × List ℕ). x.1) e in
    let tail = same_pieces c.are.0 ps qs r s (record { are = c.are.2; no_more = c.no_more })
    (record { are = subst (λ (t : List ℕ). Are qs t s) (sym same_rest) d.are.2; no_more = d.no_more }) in
    let same_piece : p ≡ q = ap (λ (x : Piece × List ℕ). x.0) e in
    (cc, tail.1)
