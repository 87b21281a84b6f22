-- What holds of the queue of items and of all its passes.
use Rattle.std.specs.Prelude.{◌≡◌, ℕ, ◌+◌, List, [], All, length, sum_by, count_by, nat_lt, ◌==◌, if◌then◌else◌}
use Rattle.batch_pool.specs.declared.pass_view.PassView.{PassView}

-- how often a number stands in a list
abbrev pub times : ℕ → List ℕ → ℕ
times x ys = count_by (λ y. y == x) ys

-- 1 for a number below n, and 0 for another
abbrev pub once_below : ℕ → ℕ → ℕ
once_below n x = if nat_lt x n then 1 else 0

-- each number below n stands in the list once, and no other number
abbrev pub HasEachOnce : ℕ → List ℕ → Type 0
HasEachOnce n xs = (x : ℕ) → times x xs ≡ once_below n x

-- a pass without parts has pushed and taken nothing
abbrev pub IsIdle : PassView → Type 0
IsIdle v = v.parts ≡ 0 → (v.pushed ≡ 0) × (v.taken ≡ [])

-- the rule of the queue
pub record KeepsItems (items : List ℕ) (views : List PassView) : Type 0 where
  -- the queue and the lists of what was taken together hold each number below the count of numbers pushed, once, and
  -- no other number
  pub each_once : (x : ℕ) → times x items + sum_by (λ v. times x v.taken) views ≡ once_below (sum_by (λ v. v.pushed) views) x
  -- all passes together have 64 parts
  pub parts : sum_by (λ v. v.parts) views ≡ 64
  pub idle : All IsIdle views

-- where a pass has all parts and has taken nothing, the queue holds as many numbers as it pushed
abbrev pub HoldsPushed : PassView → List ℕ → Type 0
HoldsPushed v items = v.parts ≡ 64 → v.taken ≡ [] → length items ≡ v.pushed

-- where a pass has all parts, the queue holds what it pushed and has not taken
abbrev pub HoldsUntaken : PassView → List ℕ → Type 0
HoldsUntaken v items = v.parts ≡ 64 → (x : ℕ) → times x items + times x v.taken ≡ once_below v.pushed x
