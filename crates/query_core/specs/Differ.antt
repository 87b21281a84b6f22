-- Lists in which nothing comes twice.
use Rattle.std.specs.Prelude.{ℕ, Bool, true, not, List, [], ◌∷◌, ◌&&◌, nat_eq, bytes_eq}
use Rattle.std.specs.List.{list_any}

-- no two elements are the same
abbrev pub all_differ : {A : Type 0} → (A → A → Bool) → List A → Bool
all_differ same [] = true
all_differ same (x ∷ xs) = not (list_any (same x) xs) && all_differ same xs

-- no number comes twice
abbrev pub numbers_differ : List ℕ → Bool
numbers_differ numbers = all_differ nat_eq numbers

-- no text comes twice
abbrev pub texts_differ : List (List ℕ) → Bool
texts_differ texts = all_differ bytes_eq texts
