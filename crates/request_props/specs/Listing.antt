-- Lists of numbers without repetition and in order, so that each has a number by its place.
use Rattle.std.specs.Prelude.{ℕ, List, [], ◌∷◌, length, ◌↔◌}
use Rattle.std.specs.Ordering.{nat_cmp, ordering_then}
use Rattle.std.specs.Cmp.Lexicographic.{slice_cmp}
use Rattle.std.specs.BTreeSet.{insert_key}
use Rattle.std.specs.List.{Contains}
use Rattle.std.specs.List.Sorted.{IsStrictlySortedBy}
use Rattle.std.specs.declared.cmp.Ordering.{Ordering}

-- a shorter list comes first, and of two that are as long the one with the lesser element where they differ first
abbrev pub list_cmp : List ℕ → List ℕ → Ordering
list_cmp list other = ordering_then (nat_cmp (length list) (length other)) (slice_cmp nat_cmp list other)

-- the lists that were found, each once, in order
pub record IsListing (found lists : List (List ℕ)) : Type 0 where
  pub rises : IsStrictlySortedBy list_cmp lists
  pub exact : (list : List ℕ) → Contains lists list ↔ Contains found list

-- the listing as a function: each list is put at its place, unless it is there
abbrev pub listing_of : List (List ℕ) → List (List ℕ)
listing_of [] = []
listing_of (list ∷ others) = insert_key list_cmp (listing_of others) list
