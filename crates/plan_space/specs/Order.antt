-- The order of plans, by cost and then by code, as a fact that holds of equal plans too.
use Rattle.std.specs.Prelude.{ℕ, ◌≡◌, ◌<◌, ◌⊎◌, List, [], ◌∷◌, ⊤}
use Rattle.query_core.specs.declared.query.Query.{Query}
use Rattle.plan_space.specs.Nodes.{Tree, code_of}
use Rattle.plan_space.specs.Cost.{cost_of}

-- the codes are equal, or the first is less at the first place where they differ; neither begins the other
abbrev pub AtMost : List ℕ → List ℕ → Type 0
AtMost [] [] = ⊤
AtMost [] (y ∷ ys) = ⊥
AtMost (x ∷ xs) [] = ⊥
AtMost (x ∷ xs) (y ∷ ys) = (x < y) ⊎ ((x ≡ y) × AtMost xs ys)

-- the plan costs less, or the same with a code that is at most the other's
abbrev pub IsAtMost : Query → Tree → Tree → Type 0
IsAtMost q plan other = (cost_of q plan < cost_of q other)
    ⊎ ((cost_of q plan ≡ cost_of q other) × AtMost (code_of plan) (code_of other))
