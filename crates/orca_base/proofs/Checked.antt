-- What a part without a fault says of the parts before it.
use Rattle.std.proofs.Common.{◌≡◌, ◌++◌, ◌∷◌, [], ◌+◌, Bool, true, false, cond, List, length, Result, Ok, Err, refl, ap}
use Rattle.std.proofs.Common.{subst, arith, length-append}
use Rattle.std.specs.Prelude.{◌≢◌}
use Rattle.std.specs.List.{list_all}
use Rattle.std.proofs.lemmas.Bool.{and_parts}
use Rattle.orca_base.specs.Checked.{◌>>=◌, seen, each}

abbrev pub done : {E A : Type 0} → A → Result A E
done x = Ok x

module _ {E A : Type 0} where
  -- the value of a part that gave both
  pub ok_is : (x y : A) → done {E = E} x ≡ done y → x ≡ y
  ok_is x y e = cc

  -- a test that was met, and one that was not
  pub met : (b : Bool) (fault : E) (x y : A) → cond b (Ok x) (Err fault) ≡ done {E = E} y → (b ≡ true) × (x ≡ y)
  met true fault x y e = (refl, cc)
  met false fault x y e = absurd cc

  pub not_met : (b : Bool) (fault : E) (x y : A) → cond b (Err fault) (Ok x) ≡ done {E = E} y → (b ≡ false) × (x ≡ y)
  not_met true fault x y e = absurd cc
  not_met false fault x y e = (refl, cc)

module _ {E A B : Type 0} where
  -- each step without a fault has a value
  pub bind_ok : (first : Result A E) (next : A → Result B E) (y : B) → (first >>= next) ≡ Ok y
      → (x : A) × (first ≡ Ok x) × (next x ≡ Ok y)
  bind_ok (Ok x) next y e = (x, refl, e)
  bind_ok (Err fault) next y e = absurd cc

  pub seen_ok : (f : A → B) (part : Result A E) (y : B) → seen f part ≡ Ok y → (x : A) × (part ≡ Ok x) × (f x ≡ y)
  seen_ok f (Ok x) y e = (x, refl, cc)
  seen_ok f (Err fault) y e = absurd cc

-- each element passes a test that all do
pub all_pass : {X : Type 0} (xs : List X) → list_all (λ x. true) xs ≡ true
all_pass [] = refl
all_pass (x ∷ xs) = all_pass xs

module _ {E A X : Type 0} (part : List A → X → Result A E) where
  -- there are as many as elements were gone through
  more_counts : (before : List A) (xs : List X) (ys : List A) → each part before xs ≡ Ok ys
      → length ys ≡ length before + length xs
  unfolding each
  more_counts before [] ys e = omega (arith, ap length (ok_is before ys e))
  more_counts before (x ∷ xs) ys e =
      let made = bind_ok (part before x) (λ a. each part (before ++ a ∷ []) xs) ys e in
      omega (arith, more_counts (before ++ made.0 ∷ []) xs ys made.2, length-append before (made.0 ∷ []))

  pub each_counts : (xs : List X) (ys : List A) → each part [] xs ≡ Ok ys → length ys ≡ length xs
  each_counts xs ys e = omega (arith, more_counts [] xs ys e)

  -- what each element that passes the test keeps, all keep
  pub each_keeps : (good : X → Bool) (P : List A → Type 0)
      (step : (before : List A) (x : X) (a : A) → P before → good x ≡ true → part before x ≡ Ok a
      → P (before ++ a ∷ []))
      (before : List A) (xs : List X) (ys : List A) → list_all good xs ≡ true → P before → each part before xs ≡ Ok ys
      → P ys
  unfolding each
  each_keeps good P step before [] ys all p e = subst P (ok_is before ys e) p
  each_keeps good P step before (x ∷ xs) ys all p e =
      let made = bind_ok (part before x) (λ a. each part (before ++ a ∷ []) xs) ys e in
      let parts = and_parts (good x) (list_all good xs) all in
      each_keeps good P step (before ++ made.0 ∷ []) xs ys parts.1 (step before x made.0 p parts.0 made.1) made.2

-- ---- a part is told: it has a value, or a fault other than want of memory

abbrev pub IsTold : {E A : Type 0} → E → Result A E → Type 0
IsTold memory (Ok x) = Unit {0}
IsTold memory (Err fault) = fault ≢ memory

module _ {E A : Type 0} (memory : E) where
  -- of two one is told, whichever test decides
  pub either : (b : Bool) (x y : Result A E) → IsTold memory x → IsTold memory y → IsTold memory (cond b x y)
  either true x y first second = first
  either false x y first second = second

module _ {E A B : Type 0} (memory : E) where
  -- a part goes on to others that are told
  pub goes_on : (first : Result A E) (next : A → Result B E) → IsTold memory first
      → ((x : A) → IsTold memory (next x)) → IsTold memory (first >>= next)
  goes_on (Ok x) next is more = more x
  goes_on (Err fault) next is more = is

  -- what is seen of a part
  pub seen_told : (f : A → B) (part : Result A E) → IsTold memory part → IsTold memory (seen f part)
  seen_told f (Ok x) is = tt
  seen_told f (Err fault) is = is

module _ {E A X : Type 0} (memory : E) (part : List A → X → Result A E)
    (is : (before : List A) (x : X) → IsTold memory (part before x)) where
  -- elements that are told make a list that is told
  pub each_told : (before : List A) (xs : List X) → IsTold memory (each part before xs)
  unfolding each
  each_told before [] = tt
  each_told before (x ∷ xs) = goes_on memory (part before x) (λ y. each part (before ++ y ∷ []) xs) (is before x)
      (λ y. each_told (before ++ y ∷ []) xs)
