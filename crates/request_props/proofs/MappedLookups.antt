-- What a look into a list of what is made of each element finds.
use Rattle.std.proofs.Common.{◌≡◌, ℕ, List, map, Option, Some, None, refl, sym, ◌∙◌}
use Rattle.std.specs.Prelude.{slice_get}
use Rattle.std.specs.Option.{option_map, option_map_or}
use Rattle.std.proofs.lemmas.Option.{slice_get-map}

made_of : {X Y : Type 0} (f : X → Y) (x : Option X) (y default : Y) → option_map f x ≡ Some y
    → y ≡ option_map_or f x default
made_of f None y default found = (cc)
made_of f (Some x) y default found = (cc)

made_of_none : {X Y : Type 0} (f : X → Y) (x : Option X) (default : Y) → option_map f x ≡ None
    → default ≡ option_map_or f x default
made_of_none f None default none = refl
made_of_none f (Some x) default none = (cc)

-- in a list of what is made of each element, that of the element at the place
pub made_at : {X Y : Type 0} (f : X → Y) (xs : List X) (i : ℕ) (y default : Y) → slice_get (map f xs) i ≡ Some y
    → y ≡ option_map_or f (slice_get xs i) default
made_at f xs i y default found = made_of f (slice_get xs i) y default (sym (slice_get-map f xs i) ∙ found)

-- past its end none is made
pub none_made_at : {X Y : Type 0} (f : X → Y) (xs : List X) (i : ℕ) (default : Y)
    → slice_get (map f xs) i ≡ None → default ≡ option_map_or f (slice_get xs i) default
none_made_at f xs i default none = made_of_none f (slice_get xs i) default (sym (slice_get-map f xs i) ∙ none)
