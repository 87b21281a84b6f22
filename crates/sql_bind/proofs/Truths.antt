-- Lists whose elements all pass a test.
use Rattle.std.proofs.Common.{◌≡◌, Bool, true, List, [], ◌∷◌, ◌++◌, refl, ◌∙◌}
use Rattle.std.specs.List.{list_all}
use Rattle.std.proofs.lemmas.List.Folds.{list_all-append}
use Rattle.std.proofs.lemmas.Bool.{and_from, and_parts}

module _ {A : Type 0} (test : A → Bool) where
  pub all_push : (xs : List A) (x : A) → list_all test xs ≡ true → test x ≡ true → list_all test (xs ++ x ∷ []) ≡ true
  all_push xs x all one = list_all-append test xs (x ∷ []) ∙ rw (all, one) refl

  pub all_both : (xs ys : List A) → list_all test xs ≡ true → list_all test ys ≡ true → list_all test (xs ++ ys) ≡ true
  all_both xs ys these those = list_all-append test xs ys ∙ rw (these, those) refl

  -- what follows from the test, each passes
  pub all_weaker : (weaker : A → Bool) (xs : List A) → ((x : A) → test x ≡ true → weaker x ≡ true)
      → list_all test xs ≡ true → list_all weaker xs ≡ true
  all_weaker weaker [] weakens all = refl
  all_weaker weaker (x ∷ xs) weakens all =
      let parts = and_parts (test x) (list_all test xs) all in
      and_from (weaker x) (list_all weaker xs) (weakens x parts.0) (all_weaker weaker xs weakens parts.1)
