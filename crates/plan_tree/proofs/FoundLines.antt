-- What holds of a line that is found by a number, by a test, or of something.
use Rattle.std.proofs.Common.{◌≡◌, ◌↔◌, ℕ, ◌<◌, Bool, true, false, IsTrue, Option, None, Some, ap, refl, subst, arith}
use Rattle.std.specs.Prelude.{◌==◌, if◌then◌else◌}
use Rattle.std.specs.Option.{option_map}
use Rattle.std.proofs.lemmas.Bool.{eqb-true}
use Rattle.plan_space.specs.Lines.{only_line}
use Rattle.plan_space.specs.declared.lines.Line.{Line}

module _ (P : Line → Type 0) where
  -- a line is found, of which it holds
  abbrev pub IsFound : Option Line → Type 0
  IsFound found = (line : Line) × (found ≡ Some line) × P line

  pub nothing_found : IsFound None → ⊥
  nothing_found (line, is, holds) = let never : None ≡ Some line = is in let wrong : ⊥ = cc in wrong

  own_found : (own : Line) → IsFound (Some own) → P own
  own_found own (line, is, holds) = let same : line ≡ own = cc in subst P same holds

  -- the line is found by the test
  pub by_test : (own : Line) (test : Bool) → IsFound (if test then Some own else None) ↔ (IsTrue test × P own)
  by_test own true = (λ found. (refl, own_found own found), λ passes. (own, refl, passes.1))
  by_test own false = (λ found. absurd (nothing_found found), λ passes. let wrong : ⊥ = cc in absurd wrong)

  -- or where the number is 0
  pub by_first : (own : Line) (number : ℕ) → IsFound (only_line own number) ↔ ((number < 1) × P own)
  by_first own number =
      let by = by_test own (number == 0) in (
        λ found. let (first, holds) = by.0 found in (omega (arith, eqb-true number 0 first), holds),
        λ (near, holds). let same : 0 ≡ number = omega (arith, near) in
            by.1 (subst (λ (n : ℕ). IsTrue (n == 0)) same refl, holds),
      )

  -- or made of what is found
  pub by_made : {A : Type 0} (make : A → Line) (found : Option A)
      → IsFound (option_map make found) ↔ ((x : A) × (found ≡ Some x) × P (make x))
  by_made make None = (
    λ found. absurd (nothing_found found),
    λ (x, is, holds). let wrong : ⊥ = cc in absurd wrong,
  )
  by_made make (Some own) = (
    λ found. (own, refl, own_found (make own) found),
    λ (x, is, holds). (make x, ap (option_map make) is, holds),
  )
