-- A predicate that crosses does so by one of some columns, where these are all.
use Rattle.std.proofs.Common.{◌≡◌, ◌↔◌, ℕ, Option, None, Some, refl}
use Rattle.query_core.specs.declared.query.Query.{Query}
use Rattle.query_core.specs.declared.words.KeyParts.{KeyParts}
use Rattle.query_core.specs.Crossing.{crossing_of}
use Rattle.request_props.specs.Ends.{CrossesBy}

module _ (q : Query) (left right : KeyParts) (n : ℕ) (IsOne : ℕ → Type 0) (all : (column : ℕ) → IsOne column) where
  crosses_by_cases : (found : Option (ℕ × ℕ)) → crossing_of q left right n ≡ found
      → (crossing_of q left right n ≡ None → ⊥) ↔ CrossesBy q left right IsOne n
  crosses_by_cases None none = (λ some. absurd (some none), λ (a, b, is, one). let wrong : ⊥ = cc in absurd wrong)
  crosses_by_cases (Some (a, b)) is = (λ some. (a, b, is, all a), λ crosses none. let wrong : ⊥ = cc in wrong)

  -- where each column is one, what crosses does so by one
  pub crosses_any : (crossing_of q left right n ≡ None → ⊥) ↔ CrossesBy q left right IsOne n
  crosses_any = crosses_by_cases (crossing_of q left right n) refl
