-- A list each of whose elements is read as what it stands for.
use Rattle.std.proofs.Common.{◌≡◌, List, [], ◌∷◌, ◌++◌, map, Result, Ok, refl, sym, ap, ◌∙◌, append_assoc, append-nil}
use Rattle.catalog_json.specs.Walk.{each, ◌>>=◌}

-- what comes next goes on with a value that was read
pub next : {E A B : Type 0} (reading : Result A E) (a : A) (more : A → Result B E) → reading ≡ Ok a
    → (reading >>= more) ≡ more a
next reading a more e = ap (λ r. r >>= more) e

-- each element of the list is read behind those before it
abbrev pub AreRead : {E A X : Type 0} → (List A → X → Result A E) → (A → X) → List A → Type 0
AreRead {E} {A} part form whole = (before : List A) (a : A) (after : List A) → whole ≡ before ++ a ∷ after
    → part before (form a) ≡ Ok a

each_from : {E A X : Type 0} (part : List A → X → Result A E) (form : A → X) (whole before after : List A)
    → AreRead part form whole → whole ≡ before ++ after
    → each part before (map form after) ≡ Ok whole
unfolding each
each_from part form whole before [] h e = ap Ok (sym (e ∙ append-nil before))
each_from part form whole before (a ∷ after) h e =
    next (part before (form a)) a (λ y. each part (before ++ y ∷ []) (map form after)) (h before a after e)
    ∙ each_from part form whole (before ++ a ∷ []) after h (e ∙ sym (append_assoc before (a ∷ []) after))

-- and so the whole list is read
pub each_read : {E A X : Type 0} (part : List A → X → Result A E) (form : A → X) (whole : List A)
    → AreRead part form whole → each part [] (map form whole) ≡ Ok whole
each_read part form whole h = each_from part form whole [] whole h refl
