-- An order given by its keys, and by its elements.
use Rattle.std.proofs.Common.{◌≡◌, ◌+◌, ◌*◌, ◌/◌, ◌<◌, ℕ, Bool, true, false, List, map, length, slice_index_or, IsTrue}
use Rattle.std.proofs.Common.{arith, if◌then◌else◌}
use Rattle.std.specs.List.{All}
use Rattle.std.proofs.lemmas.List.{length-map}
use Rattle.std.proofs.lemmas.List.{get_or-map}
use Rattle.std.proofs.lemmas.List.Elements.{All-map}
use Rattle.query_core.specs.Keys.{has_item}
use Rattle.query_core.specs.declared.query.Query.{Query}
use Rattle.query_core.specs.declared.words.KeyParts.{KeyParts}
use Rattle.query_core.specs.declared.output.OrderKey.{OrderKey}
use Rattle.request_props.specs.Found.{element_of, elements_of}
use Rattle.request_props.specs.Lying.{OrderLiesIn}

half : (item : ℕ) (desc : Bool) → (2 * item + (if desc then 1 else 0)) / 2 ≡ item
half item true = omega arith
half item false = omega arith

-- the item of an element
pub item-element : (key : OrderKey) → element_of key / 2 ≡ key.item
item-element key = half key.item key.desc

-- the keys' items lie in the group, so the order does
pub keys_lie : (q : Query) (group : KeyParts) (keys : List OrderKey)
    → All (λ key. IsTrue (has_item q group key.item)) keys → OrderLiesIn q group (elements_of keys)
keys_lie q group keys lie =
    All-map (λ element. IsTrue (has_item q group (element / 2))) element_of keys
    (λ k d within. rw item-element (lie k d within))

-- and the other way round
pub lie_keys : (q : Query) (group : KeyParts) (keys : List OrderKey) → OrderLiesIn q group (elements_of keys)
    → All (λ key. IsTrue (has_item q group key.item)) keys
lie_keys q group keys lie k d within =
    let inside : k < length (map element_of keys) = rw length-map within in
    let at = get_or-map element_of keys k d 0 within in
    rw (← item-element (slice_index_or keys k d)) (rw at at (lie k 0 inside))
