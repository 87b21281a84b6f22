-- What is made of each element of a list, one after the other.
use Rattle.std.proofs.Common.{◌≡◌, ℕ, suc, ◌+◌, ◌<◌, List, [], ◌∷◌, ◌++◌, length, get_or, drop, map, flat_map, ap}
use Rattle.std.proofs.Common.{sym, ◌≤◌, ◌∙◌, append_assoc, append-nil, add-one, drop-cons}
use Rattle.std.proofs.lemmas.List.{at_drop_all, map-append}

-- the elements that are left begin with this one
pub left_from : {X : Type 0} (xs : List X) (i : ℕ) (x default : X) → i < length xs → x ≡ get_or xs i default
    → drop i xs ≡ x ∷ drop (i + 1) xs
left_from xs i x default within is = rw add-one (drop-cons xs i default within ∙ ap (λ z. z ∷ drop (suc i) xs) (sym is))

-- of one element more, and of those that are left
pub map_push : {X Y : Type 0} (f : X → Y) (xs : List X) (found more : List Y) (i : ℕ) (x default : X) (y : Y)
    → i < length xs → x ≡ get_or xs i default → y ≡ f x → more ≡ found ++ (y ∷ [])
    → found ++ map f (drop i xs) ≡ map f xs → more ++ map f (drop (i + 1) xs) ≡ map f xs
map_push f xs found more i x default y within is made pushed before =
    rw (pushed, append_assoc, made) (rw (left_from xs i x default within is) at before)

-- the same where several are made of an element
pub flat_map_push : {X Y : Type 0} (f : X → List Y) (xs : List X) (found more : List Y) (i : ℕ) (x default : X)
    → i < length xs → x ≡ get_or xs i default → more ≡ found ++ f x
    → found ++ flat_map f (drop i xs) ≡ flat_map f xs → more ++ flat_map f (drop (i + 1) xs) ≡ flat_map f xs
flat_map_push f xs found more i x default within is pushed before =
    rw (pushed, append_assoc) (rw (left_from xs i x default within is) at before)

-- the same where the elements are those that are made
pub unmap_push : {X Y : Type 0} (f : Y → X) (xs : List X) (found more : List Y) (i : ℕ) (default : X) (y : Y)
    → i < length xs → f y ≡ get_or xs i default → more ≡ found ++ (y ∷ []) → map f found ++ drop i xs ≡ xs
    → map f more ++ drop (i + 1) xs ≡ xs
unmap_push f xs found more i default y within is pushed before =
    rw (pushed, map-append, append_assoc) (rw (left_from xs i (f y) default within is) at before)

-- of all elements, where none is left
pub map_done : {X Y : Type 0} (f : X → Y) (xs : List X) (found : List Y) (i : ℕ) → length xs ≤ i
    → found ++ map f (drop i xs) ≡ map f xs → found ≡ map f xs
map_done f xs found i past before =
    sym (append-nil found) ∙ sym (at_drop_all (λ rest. found ++ map f rest) xs i past) ∙ before

-- the same where several are made of an element
pub flat_map_done : {X Y : Type 0} (f : X → List Y) (xs : List X) (found : List Y) (i : ℕ) → length xs ≤ i
    → found ++ flat_map f (drop i xs) ≡ flat_map f xs → found ≡ flat_map f xs
flat_map_done f xs found i past before =
    sym (append-nil found) ∙ sym (at_drop_all (λ rest. found ++ flat_map f rest) xs i past) ∙ before

-- the same where the elements are those that are made
pub unmap_done : {X Y : Type 0} (f : Y → X) (xs : List X) (found : List Y) (i : ℕ) → length xs ≤ i
    → map f found ++ drop i xs ≡ xs → map f found ≡ xs
unmap_done f xs found i past before =
    sym (append-nil (map f found)) ∙ sym (at_drop_all (λ rest. map f found ++ rest) xs i past) ∙ before
