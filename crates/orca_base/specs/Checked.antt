-- Going through parts in order, up to the first fault.
use Rattle.std.specs.Prelude.{◌≡◌, ◌≢◌, List, [], ◌∷◌, ◌++◌, Result, Ok, Err}

-- the next part counts only where this one has no fault
infixl 10 ◌>>=◌
abbrev pub ◌>>=◌ : {E A B : Type 0} → Result A E → (A → Result B E) → Result B E
(Ok x) >>= next = next x
(Err fault) >>= next = Err fault

-- a part's value, seen by f
abbrev pub seen : {E A B : Type 0} → (A → B) → Result A E → Result B E
seen f (Ok x) = Ok (f x)
seen f (Err fault) = Err fault

-- the elements in order, each after those before it
unfoldable pub each : {E A X : Type 0} → (List A → X → Result A E) → List A → List X → Result (List A) E
each part before [] = Ok before
each part before (x ∷ xs) = part before x >>= λ y. each part (before ++ y ∷ []) xs

-- what a function returned is what is due, unless memory ran out, which is the fault named first
abbrev pub Yields : {E A : Type 0} → E → Result A E → Result A E → Type 0
Yields memory due (Ok x) = due ≡ Ok x
Yields memory due (Err fault) = fault ≢ memory → due ≡ Err fault
