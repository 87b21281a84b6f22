-- The modes by their numbers.
use Rattle.std.proofs.Common.{◌≡◌, ℕ, ◌-◌, ◌<◌, ◌≤◌, ◌⊎◌, inl, inr, refl, subst, arith, lt-ltb}
use Rattle.std.proofs.lemmas.Bool.{cases_lt, le-ltb}
use Rattle.plan_space.specs.Modes.{mode_at, HasModeIn}
use Rattle.request_props.specs.NumberSets.{IsInSet}
use Rattle.plan_space.specs.declared.modes.Mode.TheVariants.{Plain, Copied, Hashed}
use Rattle.plan_space.specs.declared.modes.ModeSets.{ModeSets}

-- below 64 plain
pub plain_at : (number : ℕ) → number < 64 → mode_at number ≡ Plain number
plain_at number near = rw (lt-ltb number 64 near) refl

-- from there below 128 with copies
pub copied_at : (number : ℕ) → 64 ≤ number → number < 128 → mode_at number ≡ Copied (number - 64)
copied_at number far near = rw (le-ltb number 64 far, lt-ltb number 128 near) refl

-- and from there on hashed
pub hashed_at : (number : ℕ) → 128 ≤ number → mode_at number ≡ Hashed (number - 128)
hashed_at number far = rw (le-ltb number 64 (omega (arith, far)), le-ltb number 128 far) refl

-- of each kind those by the numbers of a set
pub has_cases : (sets : ModeSets) (number : ℕ) → HasModeIn sets (mode_at number)
    → ((number < 64) × IsInSet sets.plain number) ⊎ ((64 ≤ number) × (number < 128) × IsInSet sets.copied (number - 64))
    ⊎ ((128 ≤ number) × IsInSet sets.hashed (number - 128))
has_cases sets number is = elim (cases_lt number 64) [
  | inl near ↦ inl (near, subst (HasModeIn sets) (plain_at number near) is)
  | inr far ↦ elim (cases_lt number 128) [
    | inl less ↦ inr (inl (far, less, subst (HasModeIn sets) (copied_at number far less) is))
    | inr more ↦ inr (inr (more, subst (HasModeIn sets) (hashed_at number more) is))
  ]
]
