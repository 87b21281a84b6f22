-- A text has one outcome.
use Rattle.std.proofs.Common.{◌≡◌, ◌≢◌, ◌<◌, ℕ, List, Result, Ok, Err, refl, ap, arith, inl, inr}
use Rattle.std.proofs.lemmas.Bool.{cases_lt}
use Rattle.query_core.specs.declared.query.Query.{Query}
use Rattle.text_check.specs.Outcome.{IsGoodText, HasFault, IsOutcome}
use Rattle.text_check.specs.declared.text_fault.TextFault.{TextFault}
use Rattle.text_check.specs.declared.text_fault.TextFault.TheVariants as faults
use Rattle.text_check.proofs.Exclusions.{TextLaws, good_text, long_not_short, unformed_not_lines, large_not_few}
use Rattle.text_check.proofs.Exclusions.{misfit_not_tree, outsider_not_member, unfit_not_valid, unmet_not_served}
use Rattle.text_check.proofs.Exclusions.{number_not_own, unformed_one, large_one, misfit_one, outsider_one, unfit_one}
use Rattle.text_check.proofs.Exclusions.{number_one, cost_one}
use Rattle.text_check.proofs.Members.{valid_members}
use Rattle.text_check.proofs.OwnNumbers.{own_numbers}

-- the place of a fault in the order in which faults are told; want of memory has none
abbrev place : TextFault → ℕ
place faults.TooLong = 0
place (faults.Form line) = 1
place (faults.TooLarge nodes) = 2
place (faults.Kids line) = 3
place (faults.Member line) = 4
place (faults.Needs line) = 5
place faults.Request = 6
place (faults.Number line) = 7
place faults.Memory = 8

has_place : (f : TextFault) → f ≢ faults.Memory → place f < 8
has_place faults.TooLong other = omega arith
has_place (faults.Form line) other = omega arith
has_place (faults.TooLarge nodes) other = omega arith
has_place (faults.Kids line) other = omega arith
has_place (faults.Member line) other = omega arith
has_place (faults.Needs line) other = omega arith
has_place faults.Request other = omega arith
has_place (faults.Number line) other = omega arith
has_place faults.Memory other = absurd (other refl)

module _ (q : Query) (laws : TextLaws q) (text : List ℕ) where
  -- the text has no fault before another one of it
  earlier : (a b : TextFault) → place a < place b → place b < 8 → HasFault q text a → HasFault q text b → ⊥
  earlier faults.TooLong (faults.Form m) less told x y = long_not_short q laws text x y.short
  earlier faults.TooLong (faults.TooLarge m) less told x y = long_not_short q laws text x y.has_lines.short
  earlier faults.TooLong (faults.Kids m) less told x y = long_not_short q laws text x y.has_lines.short
  earlier faults.TooLong (faults.Member m) less told x y = long_not_short q laws text x y.is_text.has_lines.short
  earlier faults.TooLong (faults.Needs m) less told x y = long_not_short q laws text x y.is_text.has_lines.short
  earlier faults.TooLong faults.Request less told x y = long_not_short q laws text x y.is_text.has_lines.short
  earlier faults.TooLong (faults.Number m) less told x y = long_not_short q laws text x y.is_text.has_lines.short
  earlier (faults.Form n) (faults.TooLarge m) less told x y = unformed_not_lines q laws text n x y.has_lines
  earlier (faults.Form n) (faults.Kids m) less told x y = unformed_not_lines q laws text n x y.has_lines
  earlier (faults.Form n) (faults.Member m) less told x y =
      unformed_not_lines q laws text n x y.is_text.has_lines
  earlier (faults.Form n) (faults.Needs m) less told x y = unformed_not_lines q laws text n x y.is_text.has_lines
  earlier (faults.Form n) faults.Request less told x y = unformed_not_lines q laws text n x y.is_text.has_lines
  earlier (faults.Form n) (faults.Number m) less told x y =
      unformed_not_lines q laws text n x y.is_text.has_lines
  earlier (faults.TooLarge n) (faults.Kids m) less told x y = large_not_few q laws text n x y.has_lines y.few
  earlier (faults.TooLarge n) (faults.Member m) less told x y =
      large_not_few q laws text n x y.is_text.has_lines y.is_text.few
  earlier (faults.TooLarge n) (faults.Needs m) less told x y =
      large_not_few q laws text n x y.is_text.has_lines y.is_text.few
  earlier (faults.TooLarge n) faults.Request less told x y =
      large_not_few q laws text n x y.is_text.has_lines y.is_text.few
  earlier (faults.TooLarge n) (faults.Number m) less told x y =
      large_not_few q laws text n x y.is_text.has_lines y.is_text.few
  earlier (faults.Kids n) (faults.Member m) less told x y = misfit_not_tree q laws text n x y.is_text
  earlier (faults.Kids n) (faults.Needs m) less told x y = misfit_not_tree q laws text n x y.is_text
  earlier (faults.Kids n) faults.Request less told x y = misfit_not_tree q laws text n x y.is_text
  earlier (faults.Kids n) (faults.Number m) less told x y = misfit_not_tree q laws text n x y.is_text
  earlier (faults.Member n) (faults.Needs m) less told x y =
      outsider_not_member q laws text n x y.is_text y.members
  earlier (faults.Member n) faults.Request less told x y =
      outsider_not_member q laws text n x y.is_text (valid_members q y.tree y.valid)
  earlier (faults.Member n) (faults.Number m) less told x y =
      outsider_not_member q laws text n x y.is_text (valid_members q y.tree y.serves.valid)
  earlier (faults.Needs n) faults.Request less told x y = unfit_not_valid q laws text n x y.is_text y.valid
  earlier (faults.Needs n) (faults.Number m) less told x y =
      unfit_not_valid q laws text n x y.is_text y.serves.valid
  earlier faults.Request (faults.Number m) less told x y = unmet_not_served q laws text x y.is_text y.serves
  earlier a b less told x y = absurd (omega (arith, less, told))

  same_place : (a b : TextFault) → place a ≡ place b → place b < 8 → HasFault q text a → HasFault q text b → a ≡ b
  same_place faults.TooLong faults.TooLong same told x y = refl
  same_place (faults.Form n) (faults.Form m) same told x y = ap faults.Form (unformed_one q laws text n m x y)
  same_place (faults.TooLarge n) (faults.TooLarge m) same told x y = ap faults.TooLarge (large_one q laws text n m x y)
  same_place (faults.Kids n) (faults.Kids m) same told x y = ap faults.Kids (misfit_one q laws text n m x y)
  same_place (faults.Member n) (faults.Member m) same told x y = ap faults.Member (outsider_one q laws text n m x y)
  same_place (faults.Needs n) (faults.Needs m) same told x y = ap faults.Needs (unfit_one q laws text n m x y)
  same_place faults.Request faults.Request same told x y = refl
  same_place (faults.Number n) (faults.Number m) same told x y = ap faults.Number (number_one q laws text n m x y)
  same_place a b same told x y = absurd (omega (arith, same, told))

  one_fault : (a b : TextFault) → a ≢ faults.Memory → b ≢ faults.Memory → HasFault q text a → HasFault q text b → a ≡ b
  one_fault a b in_a in_b x y = elim (cases_lt (place a) (place b)) [
    | inl before ↦ absurd (earlier a b before (has_place b in_b) x y)
    | inr most ↦ elim (cases_lt (place b) (place a)) [
      | inl behind ↦ absurd (earlier b a behind (has_place a in_a) y x)
      | inr least ↦ same_place a b (omega (arith, most, least)) (has_place b in_b) x y
    ]
  ]

  good_no_fault : (cost : ℕ) (b : TextFault) → b ≢ faults.Memory → IsGoodText q text cost → HasFault q text b → ⊥
  good_no_fault cost faults.TooLong in_a x y = long_not_short q laws text y x.short
  good_no_fault cost (faults.Form n) in_a x y = unformed_not_lines q laws text n y (good_text q laws text x).has_lines
  good_no_fault cost (faults.TooLarge n) in_a x y =
      large_not_few q laws text n y (good_text q laws text x).has_lines (good_text q laws text x).few
  good_no_fault cost (faults.Kids n) in_a x y = misfit_not_tree q laws text n y (good_text q laws text x)
  good_no_fault cost (faults.Member n) in_a x y =
      outsider_not_member q laws text n y (good_text q laws text x) (valid_members q x.tree x.serves.valid)
  good_no_fault cost (faults.Needs n) in_a x y =
      unfit_not_valid q laws text n y (good_text q laws text x) x.serves.valid
  good_no_fault cost faults.Request in_a x y = unmet_not_served q laws text y (good_text q laws text x) x.serves
  good_no_fault cost (faults.Number n) in_a x y =
      number_not_own q laws text n y (good_text q laws text x) (own_numbers q x.tree)
  good_no_fault cost faults.Memory in_a x y = in_a refl

  -- memory isn't what an answer lacks
  lasts : (f : TextFault) → ◌≢◌ {A = Result ℕ TextFault} (Err f) (Err faults.Memory) → f ≢ faults.Memory
  lasts f other is = other (ap Err is)

  pub one_outcome : (a b : Result ℕ TextFault) → a ≢ Err faults.Memory → b ≢ Err faults.Memory → IsOutcome q text a
      → IsOutcome q text b → a ≡ b
  one_outcome (Ok c) (Ok d) in_a in_b x y = ap Ok (cost_one q laws text c d x y)
  one_outcome (Ok c) (Err f) in_a in_b x y = absurd (good_no_fault c f (lasts f in_b) x y)
  one_outcome (Err f) (Ok c) in_a in_b x y = absurd (good_no_fault c f (lasts f in_a) y x)
  one_outcome (Err f) (Err g) in_a in_b x y = ap Err (one_fault f g (lasts f in_a) (lasts g in_b) x y)
