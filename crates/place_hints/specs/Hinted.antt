-- Which places stand in a deque of hints.
use Rattle.std.specs.Prelude.{◌≡◌, ℕ, ◌<◌, List, All, slice_index}

-- what the owner, whose view is the first, knows of the capacity: 0 before it knows any
abbrev pub capacity_of : List ℕ → ℕ
capacity_of views = slice_index views 0

-- each place is below the capacity that the owner knows
abbrev pub AreHinted : (places views : List ℕ) → Type 0
AreHinted places views = All (λ place. place < capacity_of views) places

-- places came or went, each below the capacity that is known, and what is known stayed
pub record MovesBelow (view : ℕ) (places : List ℕ) (after : ℕ) : Type 0 where
  pub stays : after ≡ view
  pub below : All (λ place. place < view) places
