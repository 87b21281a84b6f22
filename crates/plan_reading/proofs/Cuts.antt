-- A text is cut in one way at the first byte that fails a test.
use Rattle.std.proofs.Common.{◌≡◌, ℕ, Bool, true, List, ◌++◌, take, drop, sym, ap, ◌∙◌}
use Rattle.std.specs.List.{list_all, prefix_len}
use Rattle.plan_reading.proofs.Fronts.{EndsFront}
use Rattle.plan_reading.proofs.Fronts.{taken_again, left_again}

-- two fronts that pass, before what doesn't, are the same
pub cut_once : (test : ℕ → Bool) (xs ys r s : List ℕ) → list_all test xs ≡ true → list_all test ys ≡ true
    → EndsFront test r → EndsFront test s → xs ++ r ≡ ys ++ s → (xs ≡ ys) × (r ≡ s)
cut_once test xs ys r s in_xs in_ys r_ends s_ends same = (
  sym (taken_again test xs r in_xs r_ends) ∙ ap (λ t. take (prefix_len test t) t) same
      ∙ taken_again test ys s in_ys s_ends,
  sym (left_again test xs r in_xs r_ends) ∙ ap (λ t. drop (prefix_len test t) t) same
      ∙ left_again test ys s in_ys s_ends,
)
