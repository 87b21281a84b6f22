-- Quotes written twice, byte by byte.
use Rattle.std.proofs.Common.{◌≡◌, ℕ, ◌+◌, ◌<◌, Bool, true, false, cond, List, [], ◌∷◌, ◌++◌, length, get_or, take}
use Rattle.std.proofs.Common.{refl, ap, ◌∙◌}
use Rattle.std.proofs.lemmas.List.{take_more}
use Rattle.sql_reader.specs.Pieces.{is_quote, doubled}

doubled_by : (b : ℕ) (c : Bool) (front end : List ℕ)
    → cond c (39 ∷ 39 ∷ (front ++ end)) (b ∷ (front ++ end)) ≡ cond c (39 ∷ 39 ∷ front) (b ∷ front) ++ end
doubled_by b true front end = refl
doubled_by b false front end = refl

pub doubled-append : (xs ys : List ℕ) → doubled (xs ++ ys) ≡ doubled xs ++ doubled ys
doubled-append [] ys = refl
doubled-append (x ∷ xs) ys = ap (λ (ts : List ℕ). cond (is_quote x) (39 ∷ 39 ∷ ts) (x ∷ ts)) (doubled-append xs ys)
    ∙ doubled_by x (is_quote x) (doubled xs) (doubled ys)

pub doubled_next : (text : List ℕ) (i : ℕ) → i < length text
    → doubled (take (i + 1) text) ≡ doubled (take i text) ++ doubled (get_or text i 0 ∷ [])
doubled_next text i lt = ap doubled (take_more text i 0 lt) ∙ doubled-append (take i text) (get_or text i 0 ∷ [])
