-- How steps from place to next place go round a table.
use Rattle.std.proofs.Common.{◌≡◌, ℕ, ◌+◌, ◌<◌, ◌⊎◌, sym, subst, arith}
use Rattle.std.proofs.Math.Logic.{⊎_elim}
use Rattle.std.proofs.lemmas.Bool.Decides.{nat_tests}
use Rattle.word_table.specs.Probing.{next_place, steps_to, AllPassed}

-- no step leads from a place to itself
pub steps_to-self : (capacity place : ℕ) → steps_to capacity place place ≡ 0
steps_to-self capacity place = grind (arith, nat_tests)

-- fewer steps than there are places lead anywhere
pub steps_to_below : (capacity start place : ℕ) → start < capacity → place < capacity
    → steps_to capacity start place < capacity
steps_to_below capacity start place s p = grind (arith, nat_tests)

-- the same number of steps leads to one place alone
pub steps_to_same : (capacity start p q : ℕ) → start < capacity → p < capacity → q < capacity
    → steps_to capacity start p ≡ steps_to capacity start q → p ≡ q
steps_to_same capacity start p q s hp hq e = grind (arith, nat_tests)

-- the next place is below the capacity
pub next_place_below : (capacity place : ℕ) → place < capacity → next_place place capacity < capacity
next_place_below capacity place p = grind (arith, nat_tests)

-- one step more leads to the next place, up to the last step before the start
pub steps_to-next_place : (capacity start place : ℕ) → start < capacity → place < capacity
    → steps_to capacity start place + 1 < capacity
    → steps_to capacity start (next_place place capacity) ≡ steps_to capacity start place + 1
steps_to-next_place capacity start place s p more = grind (arith, nat_tests)

-- before the first step nothing is passed
pub all_passed_none : (capacity start : ℕ) (Fact : ℕ → Type 0) → AllPassed capacity start 0 Fact
all_passed_none capacity start Fact p _ before = absurd (omega arith)

-- the places below n + 1 are those below n, and n
less_or_same : (m n : ℕ) → m < n + 1 → (m < n) ⊎ (m ≡ n)
less_or_same m n below = grind arith

-- a fact that holds of the places passed and of the next one holds of one place more
pub all_passed_more : (capacity start place : ℕ) (Fact : ℕ → Type 0) → start < capacity → place < capacity
    → AllPassed capacity start (steps_to capacity start place) Fact → Fact place
    → AllPassed capacity start (steps_to capacity start place + 1) Fact
all_passed_more capacity start place Fact s p passed here q in_range before =
    ⊎_elim
    (λ fewer. passed q in_range fewer)
    (λ same. subst Fact (sym (steps_to_same capacity start q place s in_range p same)) here)
    (less_or_same (steps_to capacity start q) (steps_to capacity start place) before)

-- once round, every place was passed
pub all_passed_round : (capacity start : ℕ) (Fact : ℕ → Type 0) → start < capacity
    → AllPassed capacity start capacity Fact
    → (place : ℕ) → place < capacity → Fact place
all_passed_round capacity start Fact s passed place p = passed place p (steps_to_below capacity start place s p)

-- what follows from a fact at each place holds of all that were passed
pub all_passed_as : (capacity start steps : ℕ) (Fact Then : ℕ → Type 0)
    → ((place : ℕ) → place < capacity → Fact place → Then place)
    → AllPassed capacity start steps Fact → AllPassed capacity start steps Then
all_passed_as capacity start steps Fact Then follows passed place p before = follows place p (passed place p before)

-- a probe that made this many steps is at the place, unless it went round, and the fact holds of all that it passed
pub record HasProbed (capacity start place steps : ℕ) (Fact : ℕ → Type 0) : Type 0 where
  pub in_range : place < capacity
  pub at : steps < capacity → steps_to capacity start place ≡ steps
  pub passed : AllPassed capacity start steps Fact

-- a probe begins at its start
pub has_probed_none : (capacity start : ℕ) (Fact : ℕ → Type 0) → start < capacity
    → HasProbed capacity start start 0 Fact
has_probed_none capacity start Fact s = record {
  in_range = s;
  at = λ _. steps_to-self capacity start;
  passed = all_passed_none capacity start Fact;
}

-- before it went round, a probe passed all up to its place
pub has_passed : (capacity start place steps : ℕ) (Fact : ℕ → Type 0) → steps < capacity
    → HasProbed capacity start place steps Fact → AllPassed capacity start (steps_to capacity start place) Fact
has_passed capacity start place steps Fact few probed =
    subst (λ k. AllPassed capacity start k Fact) (sym (probed.at few)) probed.passed

-- where the fact holds of the place too, the probe goes on to the next one
pub has_probed_more : (capacity start place steps : ℕ) (Fact : ℕ → Type 0) → start < capacity → steps < capacity
    → HasProbed capacity start place steps Fact → Fact place
    → HasProbed capacity start (next_place place capacity) (steps + 1) Fact
has_probed_more capacity start place steps Fact s few probed here = record {
  in_range = next_place_below capacity place probed.in_range;
  at = λ more. subst (λ k. steps_to capacity start (next_place place capacity) ≡ k + 1) (probed.at few)
      (steps_to-next_place capacity start place s probed.in_range
      (subst (λ k. k + 1 < capacity) (sym (probed.at few)) more));
  passed = subst (λ k. AllPassed capacity start (k + 1) Fact) (probed.at few)
      (all_passed_more capacity start place Fact s probed.in_range
      (has_passed capacity start place steps Fact few probed) here);
}
