-- Lists with one more element, and where a list is split.
use Rattle.std.proofs.Common.{◌≡◌, ◌<◌, ◌+◌, ◌⊎◌, inl, inr, ℕ, zero, suc, List, [], ◌∷◌, ◌++◌, Option, None, Some, All}
use Rattle.std.proofs.Common.{length, get_or, slice_get, take, drop, take-suc, take-append-drop, drop-cons, add-one}
use Rattle.std.proofs.Common.{length-append, arith, refl, sym, ap, subst, ◌∙◌}
use Rattle.std.specs.List.{AllZip}
use Rattle.std.proofs.lemmas.List.Elements.{All-head, All-tail}
use Rattle.std.proofs.Math.ListN.{get_or-append}

-- ---- what stands at a place

pub get_left : {X : Type 0} (xs ys : List X) (n : ℕ) (x : X) → slice_get xs n ≡ Some x → slice_get (xs ++ ys) n ≡ Some x
get_left [] ys n x h = cc
get_left (y ∷ xs) ys zero x h = h
get_left (y ∷ xs) ys (suc n) x h = get_left xs ys n x h

pub get_last : {X : Type 0} (xs : List X) (y : X) (ys : List X) → slice_get (xs ++ y ∷ ys) (length xs) ≡ Some y
get_last [] y ys = refl
get_last (x ∷ xs) y ys = get_last xs y ys

pub get_cases : {X : Type 0} (xs : List X) (y : X) (n : ℕ) (x : X) → slice_get (xs ++ y ∷ []) n ≡ Some x
    → (slice_get xs n ≡ Some x) ⊎ ((n ≡ length xs) × (x ≡ y))
get_cases [] y zero x h = inr (refl, cc)
get_cases [] y (suc n) x h = cc
get_cases (z ∷ xs) y zero x h = inl h
get_cases (z ∷ xs) y (suc n) x h =
    elim (get_cases xs y n x h) as (λ _. (slice_get xs n ≡ Some x) ⊎ ((suc n ≡ suc (length xs)) × (x ≡ y))) [
      | inl here ↦ inl here
      | inr last ↦ inr (ap suc last.0, last.1)
    ]

pub split_at : {X : Type 0} (xs : List X) (n : ℕ) (x : X) → n < length xs → x ≡ get_or xs n x
    → take n xs ++ x ∷ drop (suc n) xs ≡ xs
split_at xs n x near is =
    ap (λ y. take n xs ++ y ∷ drop (suc n) xs) is ∙ ap (λ l. take n xs ++ l) (sym (drop-cons xs n x near))
    ∙ take-append-drop n xs

pub take_more : {X : Type 0} (xs : List X) (n : ℕ) (x : X) → n < length xs → x ≡ get_or xs n x
    → take n xs ++ x ∷ [] ≡ take (n + 1) xs
take_more xs n x near is =
    ap (λ y. take n xs ++ y ∷ []) is ∙ sym (take-suc xs n x near) ∙ ap (λ k. take k xs) (sym (add-one n))

-- nothing is left but none
pub none_left : {X : Type 0} (found : Option X) → ((x : X) → found ≡ Some x → ⊥) → found ≡ None
none_left None not_some = refl
none_left (Some x) not_some = absurd (not_some x refl)

-- ---- all elements

pub All-front : {X : Type 0} (P : X → Type 0) (xs ys : List X) → All P (xs ++ ys) → All P xs
All-front P xs ys h k d near =
    let inside : k < length (xs ++ ys) = omega (arith, length-append xs ys) in
    subst P (get_or-append xs ys d k near) (h k d inside)

pub All-last : {X : Type 0} (P : X → Type 0) (xs : List X) (y : X) (ys : List X) → All P (xs ++ y ∷ ys) → P y
All-last P [] y ys h = All-head P y ys h
All-last P (x ∷ xs) y ys h = All-last P xs y ys (All-tail P x (xs ++ y ∷ ys) h)

-- ---- lists side by side

pub AllZip-push : {X Y : Type 0} (R : X → Y → Type 0) (xs : List X) (ys : List Y) (x : X) (y : Y) → AllZip R xs ys
    → R x y → AllZip R (xs ++ x ∷ []) (ys ++ y ∷ [])
AllZip-push R [] [] x y h last = (last, tt)
AllZip-push R [] (b ∷ ys) x y h last = absurd h
AllZip-push R (a ∷ xs) [] x y h last = absurd h
AllZip-push R (a ∷ xs) (b ∷ ys) x y h last = (h.0, AllZip-push R xs ys x y h.1 last)

pub AllZip-one : {X Y : Type 0} (R : X → Y → Type 0) → ((x : X) (y z : Y) → R x y → R x z → z ≡ y) → (xs : List X)
    (ys zs : List Y) → AllZip R xs ys → AllZip R xs zs → zs ≡ ys
AllZip-one R one [] [] [] h k = refl
AllZip-one R one [] [] (z ∷ zs) h k = absurd k
AllZip-one R one [] (y ∷ ys) zs h k = absurd h
AllZip-one R one (x ∷ xs) [] zs h k = absurd h
AllZip-one R one (x ∷ xs) (y ∷ ys) [] h k = absurd k
AllZip-one R one (x ∷ xs) (y ∷ ys) (z ∷ zs) h k =
    let first = one x y z h.0 k.0 in let others = AllZip-one R one xs ys zs h.1 k.1 in cc

-- ---- splits

-- a list that isn't empty has a last element
pub record HasLast {X : Type 0} (xs : List X) : Type 0 where
  pub front : List X
  pub last : X
  pub all : xs ≡ front ++ last ∷ []

pub last_of : {X : Type 0} (x : X) (xs : List X) → HasLast (x ∷ xs)
last_of x [] = record { front = []; last = x; all = refl }
last_of x (y ∷ xs) =
    let others = last_of y xs in record {
      front = x ∷ others.front;
      last = others.last;
      all = ap (λ l. x ∷ l)
          others.all;
    }

-- where a list is split at the first element that stops, or at its last one, it is split in one way
module _ {X : Type 0} (Stops : X → Type 0) where
  not_before : (last : X) (rest : List X) (x : X) (front : List X) (other : X) (others : List X)
      → last ∷ rest ≡ (x ∷ front) ++ other ∷ others → All (λ y. Stops y → ⊥) (x ∷ front)
      → Stops last ⊎ (rest ≡ []) → ⊥
  not_before last rest x [] other others same on (inl stops) =
      let is : last ≡ x = cc in All-head (λ y. Stops y → ⊥) x [] on (subst Stops is stops)
  not_before last rest x (y ∷ front) other others same on (inl stops) =
      let is : last ≡ x = cc in All-head (λ y. Stops y → ⊥) x (y ∷ front) on (subst Stops is stops)
  not_before last rest x [] other others same on (inr none) = cc
  not_before last rest x (y ∷ front) other others same on (inr none) = cc

  pub one_split : (front other_front : List X) (last other : X) (rest others : List X)
      → front ++ last ∷ rest ≡ other_front ++ other ∷ others
      → All (λ y. Stops y → ⊥) front → All (λ y. Stops y → ⊥) other_front
      → Stops last ⊎ (rest ≡ []) → Stops other ⊎ (others ≡ [])
      → (other_front ≡ front) × (other ≡ last)
  one_split [] [] last other rest others same on goes ends stops = (refl, cc)
  one_split [] (x ∷ xs) last other rest others same on goes ends stops =
      absurd (not_before last rest x xs other others same goes ends)
  one_split (x ∷ xs) [] last other rest others same on goes ends stops =
      absurd (not_before other others x xs last rest (sym same) on stops)
  one_split (x ∷ xs) (y ∷ ys) last other rest others same on goes ends stops =
      let tails : xs ++ last ∷ rest ≡ ys ++ other ∷ others = cc in
      let heads : y ≡ x = cc in
      let below = one_split xs ys last other rest others tails (All-tail (λ y. Stops y → ⊥) x xs on)
      (All-tail (λ y. Stops y → ⊥) y ys goes) ends stops in
      let fronts = below.0 in
      (cc, below.1)
