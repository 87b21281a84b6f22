-- What a look into a list finds.
use Rattle.std.proofs.Common.{ℕ, ◌<◌, ◌≤◌, List, None, Some, length, get_or, refl, ◌≡◌}
use Rattle.std.specs.List.{slice_get}
use Rattle.std.proofs.lemmas.Option.{slice_get_past, slice_get_read}

-- the element at its place
pub found_at : {X : Type 0} (xs slice : List X) (i : ℕ) (x : X) → slice ≡ xs → i < length slice
    → x ≡ get_or slice i x → slice_get xs i ≡ Some x
found_at xs slice i x same within here = rw (← same) (slice_get_read slice (length slice) i x refl within here)

-- past the end there is none
pub none_at : {X : Type 0} (xs slice : List X) (i : ℕ) → slice ≡ xs → length slice ≤ i → slice_get xs i ≡ None
none_at xs slice i same past = rw (← same) (slice_get_past slice i past)
