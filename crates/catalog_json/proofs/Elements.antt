-- The elements of an array, as a slice of values shows them.
use Rattle.std.proofs.Common.{◌≡◌, List, [], ◌∷◌, refl, ap}
use Rattle.serde_json.specs.Data.{Data}
use Rattle.serde_json.specs.View.{items_of}
use Rattle.catalog_json.specs.Walk.{elements}

pub elements_items_of : (ds : List Data) → elements (items_of ds) ≡ ds
elements_items_of [] = refl
elements_items_of (d ∷ ds) = ap (λ (es : List Data). d ∷ es) (elements_items_of ds)
