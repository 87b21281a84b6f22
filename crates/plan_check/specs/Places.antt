-- The first and the last element of a list that lacks a fact.
use Rattle.std.specs.Prelude.{ℕ, ◌≡◌, List, ◌∷◌, ◌++◌, length, All}

-- so many elements stand before one that lacks the fact, and each of them has it
pub record IsFirstWithout {X : Type 0} (Fact : X → Type 0) (list : List X) (place : ℕ) : Type 0 where
  pub before : List X
  pub element : X
  pub behind : List X
  pub parts : list ≡ before ++ element ∷ behind
  pub count : place ≡ length before
  pub lacks : Fact element → ⊥
  pub others : All Fact before

-- so many elements stand before one that lacks the fact, and each behind it has it
pub record IsLastWithout {X : Type 0} (Fact : X → Type 0) (list : List X) (place : ℕ) : Type 0 where
  pub before : List X
  pub element : X
  pub behind : List X
  pub parts : list ≡ before ++ element ∷ behind
  pub count : place ≡ length before
  pub lacks : Fact element → ⊥
  pub others : All Fact behind
