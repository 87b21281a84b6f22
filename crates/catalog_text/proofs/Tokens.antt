-- The tokens of a list, element by element.
use Rattle.std.proofs.Common.{◌≡◌, List, [], ◌∷◌, ◌++◌, map, refl, sym, ap, ◌∙◌, append_assoc}
use Rattle.std.specs.List.{flat_map}
use Rattle.json.specs.Token.{Token, end_array}
use Rattle.json.specs.Json.{Json}
use Rattle.json.specs.Tree.{json_tokens, items_tokens}
use Rattle.catalog_text.specs.Text.{items_of}

pub list_tokens : {X : Type 0} (json : X → Json) (xs : List X)
    → items_tokens (items_of (map json xs)) ≡ flat_map (λ x. json_tokens (json x)) xs ++ end_array ∷ []
list_tokens json [] = refl
list_tokens json (x ∷ xs) =
    ap (λ (ts : List Token). json_tokens (json x) ++ ts) (list_tokens json xs)
    ∙ sym (append_assoc (json_tokens (json x)) (flat_map (λ y. json_tokens (json y)) xs) (end_array ∷ []))
