-- What one word adds to the physical expressions that were found: cited by private functions alone.
use Rattle.std.specs.Prelude.{ℕ, ◌≡◌, ◌⊎◌, List, [], ◌∷◌, ◌++◌}
use Rattle.query_core.specs.Expressions.{HasWord, expr_of}
use Rattle.query_core.specs.declared.expressions.PhysicalExpr.{PhysicalExpr}
use Rattle.request_props.specs.Candidates.{with_word}
use Rattle.request_props.specs.declared.tables.physical.PhysicalCandidate.{PhysicalCandidate}

-- the physical expression of the word is added, or the word is that of none
abbrev pub AddsPhysical : ℕ → List PhysicalCandidate → List PhysicalCandidate → Type 0
AddsPhysical word old new = (((e : PhysicalExpr) → HasWord word (expr_of e) → ⊥) × (new ≡ old))
    ⊎ ((e : PhysicalExpr) × HasWord word (expr_of e) × (new ≡ old ++ with_word e ∷ []))
