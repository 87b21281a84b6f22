-- What is computed of each number of a range holds at any of them.
use Rattle.std.proofs.Common.{◌≡◌, ℕ, zero, suc, ◌+◌, ◌<◌, ◌≤◌, Bool, true, map, inl, inr, arith, subst}
use Rattle.std.specs.List.{list_all, range_with_len}
use Rattle.std.proofs.lemmas.Bool.{and_parts, cases_eq}

-- what all numbers of a range pass
pub in_range : (test : ℕ → Bool) (a n t : ℕ) → list_all test (range_with_len a n) ≡ true → a ≤ t → t < a + n
    → test t ≡ true
in_range test a zero t all from below = absurd (omega arith)
in_range test a (suc n) t all from below =
    let parts = and_parts (test a) (list_all test (range_with_len (a + 1) n)) all in
    elim (cases_eq a t) [
      | inl same ↦ subst (λ k. test k ≡ true) same parts.0
      | inr other ↦ in_range test (a + 1) n t parts.1 (omega (arith, other)) (omega arith)
    ]

-- what is equal for all numbers of a range
pub same_in_range : {A : Type 0} (f g : ℕ → A) (a n t : ℕ) → map f (range_with_len a n) ≡ map g (range_with_len a n)
    → a ≤ t → t < a + n → f t ≡ g t
same_in_range f g a zero t all from below = absurd (omega arith)
same_in_range f g a (suc n) t all from below =
    let here : f a ≡ g a = cc in
    let rest : map f (range_with_len (a + 1) n) ≡ map g (range_with_len (a + 1) n) = cc in
    elim (cases_eq a t) [
      | inl same ↦ subst (λ k. f k ≡ g k) same here
      | inr other ↦ same_in_range f g (a + 1) n t rest (omega (arith, other)) (omega arith)
    ]
