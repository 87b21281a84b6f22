-- Sets of numbers below 64.
use Rattle.std.specs.Prelude.{ℕ, ◌<◌, ◌≤◌}
use Rattle.query_core.specs.Sets.{Has}
use Rattle.request_props.specs.declared.number_set.NumberSet.{NumberSet}

-- the number is in the set
abbrev pub IsInSet : NumberSet → ℕ → Type 0
IsInSet set number = Has set.mask number

-- all numbers below the bound are
abbrev pub HasBelow : NumberSet → ℕ → Type 0
HasBelow set bound = (number : ℕ) → number < bound → IsInSet set number

-- none of these numbers is from the one on and below the other
abbrev pub NoneBetween : (ℕ → Type 0) → ℕ → ℕ → Type 0
NoneBetween IsOne from below = (number : ℕ) → from ≤ number → number < below → IsOne number → ⊥
