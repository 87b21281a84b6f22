-- Sets of names and of columns, in the order in which they were added.
use Rattle.std.proofs.Common.{◌≡◌, ℕ, ◌+◌, ◌<◌, Bool, true, false, not, cond, List, [], ◌∷◌, ◌++◌, length, map, drop}
use Rattle.std.proofs.Common.{flat_map, get_or, position, refl, ap, append_assoc}
use Rattle.std.specs.List.{list_any, prefix_len}
use Rattle.std.proofs.lemmas.List.{length-map}
use Rattle.query_core.specs.Differ.{all_differ}
use Rattle.query_core.proofs.Apart.{new_after}
use Rattle.sql_bind.proofs.Each.{next_of}

module _ {X Y : Type 0} (f : X → Y) where
  prefix_len-map : (test : Y → Bool) (xs : List X) → prefix_len test (map f xs) ≡ prefix_len (λ x. test (f x)) xs
  prefix_len-map test [] = refl
  prefix_len-map test (x ∷ xs) = ap (λ n. cond (test (f x)) (1 + n) 0) (prefix_len-map test xs)

  -- the first place at which what f makes passes
  pub position-map : (test : Y → Bool) (xs : List X) → position test (map f xs) ≡ position (λ x. test (f x)) xs
  position-map test xs = rw (prefix_len-map (λ y. not (test y)) xs, length-map xs f) refl

-- the element at place i is new, where nothing comes twice and those before it were added
pub is_new : {X A : Type 0} (same : A → A → Bool) (turned : (a b : A) → same a b ≡ same b a) (f : X → A)
    (before : List A) (xs : List X) (i : ℕ) (x : X)
    → all_differ same (map f xs) ≡ true → before ++ map f (drop i xs) ≡ map f xs → i < length xs → x ≡ get_or xs i x
    → list_any (same (f x)) before ≡ false
is_new same turned f before xs i x differ so_far lt is =
    let whole : before ++ f x ∷ map f (drop (i + 1) xs) ≡ map f xs = rw (next_of xs i x lt is) at so_far in
    new_after same turned before (f x) (map f (drop (i + 1) xs)) (rw whole differ)

module _ {X A : Type 0} (f : X → A) (xs : List X) (i : ℕ) (x : X) (lt : i < length xs) (is : x ≡ get_or xs i x) where
  -- with the element at place i, those after it are left
  pub next_added : {whole : List A} → (before after : List A) → before ++ map f (drop i xs) ≡ whole
      → after ≡ before ++ f x ∷ [] → after ++ map f (drop (i + 1) xs) ≡ whole
  next_added before after so_far added = rw (added, append_assoc before (f x ∷ []) (map f (drop (i + 1) xs)))
      (rw (next_of xs i x lt is) at so_far)

module _ {X A : Type 0} (f : X → List A) (xs : List X) (i : ℕ) (x : X) (lt : i < length xs) (is : x ≡ get_or xs i x)
  where
    -- the same, where an element has several
    pub next_several : {whole : List A} → (before after : List A) → before ++ flat_map f (drop i xs) ≡ whole
        → after ≡ before ++ f x → after ++ flat_map f (drop (i + 1) xs) ≡ whole
    next_several before after so_far added = rw (added, append_assoc before (f x) (flat_map f (drop (i + 1) xs)))
        (rw (next_of xs i x lt is) at so_far)
