-- The lesser of two pairs, by cost and then by node.
use Rattle.std.proofs.Common.{◌≡◌, ℕ, true, false, ◌<◌, ◌≤◌, ◌⊎◌, inl, inr, sym, arith}
use Rattle.std.specs.Prelude.{Bool, nat_lt, nat_eq, ◌&&◌, ◌||◌}
use Rattle.std.proofs.lemmas.Bool.{cases_order}
use Rattle.std.proofs.lemmas.Bool.Decides.{nat_tests}

-- a pair of a cost and a number is less than another
abbrev pub is_less : ℕ → ℕ → ℕ → ℕ → Bool
is_less cost node other_cost other_node = nat_lt cost other_cost || (nat_eq cost other_cost && nat_lt node other_node)

less_costs_at_most : (c n d m : ℕ) → is_less c n d m ≡ true → c ≤ d
less_costs_at_most c n d m is = grind (arith, nat_tests)

less_at_one_cost : (c n d m : ℕ) → is_less c n d m ≡ true → c ≡ d → n < m
less_at_one_cost c n d m is same = grind (arith, nat_tests)

not_less_costs_at_least : (c n d m : ℕ) → is_less c n d m ≡ false → d ≤ c
not_less_costs_at_least c n d m is = grind (arith, nat_tests)

not_less_at_one_cost : (c n d m : ℕ) → is_less c n d m ≡ false → c ≡ d → m ≤ n
not_less_at_one_cost c n d m is same = grind (arith, nat_tests)

-- the first costs less, or the same at a lesser node
pub less_by : (c n d m : ℕ) → is_less c n d m ≡ true → (c < d) ⊎ ((c ≡ d) × (n < m))
less_by c n d m is = elim (cases_order c d) [
  | inl same ↦ inr (same, less_at_one_cost c n d m is same)
  | inr (inl less) ↦ inl less
  | inr (inr more) ↦ let most = less_costs_at_most c n d m is in absurd (omega (arith, most, more))
]

-- the second costs less, or the same at a node that isn't greater
pub not_less_by : (c n d m : ℕ) → is_less c n d m ≡ false → (d < c) ⊎ ((d ≡ c) × (m ≤ n))
not_less_by c n d m is = elim (cases_order d c) [
  | inl same ↦ let swapped : c ≡ d = sym same in inr (same, not_less_at_one_cost c n d m is swapped)
  | inr (inl less) ↦ inl less
  | inr (inr more) ↦ let least = not_less_costs_at_least c n d m is in absurd (omega (arith, least, more))
]
