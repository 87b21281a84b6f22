-- Steps of the writer, one after another.
use Rattle.std.proofs.Common.{ℕ, ◌+◌, ◌<◌, List, [], ◌∷◌, ◌++◌, length, get_or, take, Result, Ok, Err, OnOk, sym, ap}
use Rattle.std.proofs.Common.{subst, ◌∙◌, append_assoc}
use Rattle.std.specs.List.{flat_map}
use Rattle.std.proofs.lemmas.List.{flat_map_more, take_more}
use Rattle.json.specs.Token.{Token, begin_array, end_array}
use Rattle.json.specs.Json.{Json}
use Rattle.json.specs.Tree.{json_tokens}
use Rattle.json.specs.Written.{Written, Writes}
use Rattle.catalog_text.specs.AddsTokens.{AddsTokens}
use Rattle.catalog_text.specs.Text.{list_json}
use Rattle.catalog_text.proofs.Tokens.{list_tokens}

-- what two steps add
pub both_added : (old mid new : Written) (first second : List Token) → AddsTokens old mid first
    → AddsTokens mid new second
    → AddsTokens old new (first ++ second)
both_added old mid new first second a b = record {
  tokens = b.tokens ∙ ap (λ (ts : List Token). ts ++ second) a.tokens ∙ append_assoc old.tokens first second;
  before = b.before ∙ a.before;
}

-- the elements before place i, and then the one there
pub more_added : {X : Type 0} (json : X → Json) (xs : List X) (i : ℕ) (d : X) (old mid new : Written) → i < length xs
    → AddsTokens old mid (flat_map (λ x. json_tokens (json x)) (take i xs))
    → AddsTokens mid new (json_tokens (json (get_or xs i d)))
    → AddsTokens old new (flat_map (λ x. json_tokens (json x)) (take (i + 1) xs))
more_added {X} json xs i d old mid new within so_far next =
    let each : X → List Token = λ x. json_tokens (json x) in
    subst (AddsTokens old new)
    (flat_map_more each [] (take i xs) (get_or xs i d) ∙ ap (flat_map each) (sym (take_more xs i d within)))
    (both_added old mid new (flat_map each (take i xs)) (each (get_or xs i d)) so_far next)

module _ {E : Type 0} where
  -- a token that is written is added
  pub token_added : (r : Result (Unit {0}) E) (old new : Written) (t : Token) → Writes r old new t
      → OnOk r (AddsTokens old new (t ∷ []))
  token_added (Ok u) old new t w = record { tokens = w.ok; before = w.room.0 }
  token_added (Err e) old new t w = tt

  -- what a step adds and the last one
  pub last_added : (r : Result (Unit {0}) E) (old mid new : Written) (first second : List Token)
      → AddsTokens old mid first
      → OnOk r (AddsTokens mid new second) → OnOk r (AddsTokens old new (first ++ second))
  last_added (Ok u) old mid new first second a b = both_added old mid new first second a b
  last_added (Err e) old mid new first second a b = tt

  -- a list between its brackets
  pub list_added : {X : Type 0} (json : X → Json) (xs : List X) (r : Result (Unit {0}) E)
      (old opened filled new : Written)
      → AddsTokens old opened (begin_array ∷ []) → AddsTokens opened filled (flat_map (λ x. json_tokens (json x)) xs)
      → Writes r filled new end_array → OnOk r (AddsTokens old new (json_tokens (list_json json xs)))
  list_added json xs r old opened filled new begun each ended =
      let elements = flat_map (λ x. json_tokens (json x)) xs in
      subst (λ (ts : List Token). OnOk r (AddsTokens old new (begin_array ∷ ts))) (sym (list_tokens json xs))
      (last_added r old opened new (begin_array ∷ []) (elements ++ end_array ∷ []) begun
      (last_added r opened filled new elements (end_array ∷ []) each (token_added r filled new end_array ended)))
