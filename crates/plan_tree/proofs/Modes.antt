-- The modes in which an expression may serve a request, ascending.
use Rattle.std.proofs.Common.{◌≡◌, ◌≤◌, ◌<◌, ◌+◌, ◌-◌, ℕ, zero, suc, Bool, true, false, List, [], ◌∷◌, Some, None, inl}
use Rattle.std.proofs.Common.{inr, length, slice_get, slice_index, refl, ap, sym, ◌∙◌, subst, add-one, arith}
use Rattle.std.proofs.Common.{if◌then◌else◌}
use Rattle.std.specs.List.{Contains}
use Rattle.std.specs.List.Sorted.{IsStrictlyIncreasing}
use Rattle.std.proofs.lemmas.Bool.{cases_Bool, cases_lt}
use Rattle.std.proofs.lemmas.List.Elements.{Contains-get_or}
use Rattle.query_core.specs.declared.query.Query.{Query}
use Rattle.query_core.specs.declared.expressions.PhysicalExpr.{PhysicalExpr}
use Rattle.query_core.proofs.Contained.{contains_cases, contains_here, contains_later}
use Rattle.xform_rules.proofs.OneClosure.{increasing_one}
use Rattle.request_props.specs.declared.request.Request.{Request}
use Rattle.request_props.specs.Numbered.{lists_of}
use Rattle.plan_space.specs.Laws.{ModesAreFew}
use Rattle.plan_tree.specs.Alternatives.{AreModes}
use Rattle.plan_tree.proofs.Decided.{has, alternative_from_has, has_alternative}

-- ---- the numbers that pass a test, so many of them looked at from this one on

pub passing : (ℕ → Bool) → ℕ → ℕ → List ℕ
passing p from zero = []
passing p from (suc left) = if p from then from ∷ passing p (from + 1) left else passing p (from + 1) left

pub passing-end : (p : ℕ → Bool) (from : ℕ) → passing p from zero ≡ []
unfolding passing
passing-end p from = refl

pub passing-yes : (p : ℕ → Bool) (from left : ℕ) → p from ≡ true
    → passing p from (suc left) ≡ from ∷ passing p (from + 1) left
unfolding passing
passing-yes p from left holds = rw holds

pub passing-pass : (p : ℕ → Bool) (from left : ℕ) → p from ≡ false
    → passing p from (suc left) ≡ passing p (from + 1) left
unfolding passing
passing-pass p from left not_it = rw not_it

in_passing : (p : ℕ → Bool) (from left m : ℕ) → Contains (passing p from left) m → (from ≤ m) × (m < from + left)
    × (p m ≡ true)
in_passing p from zero m there = let within : there.0 < length (passing p from zero) = there.1 in
    absurd (let none = passing-end p from in let no_length = ap length none in omega arith)
in_passing p from (suc left) m there = elim (cases_Bool (p from)) [
  | inl holds ↦ elim (contains_cases from (passing p (from + 1) left) m
      (subst (λ (xs : List ℕ). Contains xs m) (passing-yes p from left holds) there)) [
        | inl is ↦ (omega arith, omega arith, subst (λ (k : ℕ). p k ≡ true) is holds)
        | inr later ↦ let below = in_passing p (from + 1) left m later in (omega arith, omega arith, below.2)
      ]
  | inr not_it ↦
      let below = in_passing p (from + 1) left m
      (subst (λ (xs : List ℕ). Contains xs m) (passing-pass p from left not_it) there) in
      (omega arith, omega arith, below.2)
]

passing_has : (p : ℕ → Bool) (from left m : ℕ) → from ≤ m → m < from + left → p m ≡ true
    → Contains (passing p from left) m
passing_has p from zero m at within holds = absurd (omega arith)
passing_has p from (suc left) m at within holds = elim (cases_lt from m) [
  | inl later ↦
      let below = passing_has p (from + 1) left m (omega arith) (omega arith) holds in
      elim (cases_Bool (p from)) [
        | inl first ↦ subst (λ (xs : List ℕ). Contains xs m) (sym (passing-yes p from left first))
            (contains_later from (passing p (from + 1) left) m below)
        | inr not_it ↦ subst (λ (xs : List ℕ). Contains xs m) (sym (passing-pass p from left not_it)) below
      ]
  | inr first ↦
      let same : from ≡ m = omega arith in
      let here : p from ≡ true = subst (λ (k : ℕ). p k ≡ true) (sym same) holds in
      subst (λ (xs : List ℕ). Contains xs m) (sym (passing-yes p from left here))
      (subst (Contains (from ∷ passing p (from + 1) left)) same (contains_here from (passing p (from + 1) left)))
]

rises_at : (x : ℕ) (xs : List ℕ) → ((m : ℕ) → Contains xs m → x < m) → IsStrictlyIncreasing xs
    → (k : ℕ) → k + 1 < length (x ∷ xs) → slice_index (x ∷ xs) k < slice_index (x ∷ xs) (k + 1)
rises_at x xs above rises zero within = above (slice_index xs 0) (Contains-get_or xs 0 0 (omega arith))
rises_at x xs above rises (suc k) within = let step = rises k (omega arith) in rw add-one (rw add-one at step)

rises_cons : (x : ℕ) (xs : List ℕ) → ((m : ℕ) → Contains xs m → x < m) → IsStrictlyIncreasing xs
    → IsStrictlyIncreasing (x ∷ xs)
rises_cons x xs above rises = λ k within. rises_at x xs above rises k within

passing_rises : (p : ℕ → Bool) (from left : ℕ) → IsStrictlyIncreasing (passing p from left)
passing_rises p from zero = subst IsStrictlyIncreasing (sym (passing-end p from)) (λ k within. absurd (omega arith))
passing_rises p from (suc left) = elim (cases_Bool (p from)) [
  | inl holds ↦
      subst IsStrictlyIncreasing (sym (passing-yes p from left holds))
      (rises_cons from (passing p (from + 1) left) (λ m there. let below = in_passing p (from + 1) left m there in
      omega arith) (passing_rises p (from + 1) left))
  | inr not_it ↦ subst IsStrictlyIncreasing (sym (passing-pass p from left not_it)) (passing_rises p (from + 1) left)
]

-- ---- the modes

-- where there are no others, those of the first 192 that are alternatives
pub modes_are : (q : Query) → ModesAreFew q → length (lists_of q) ≤ 60 → (e : PhysicalExpr) (wanted : Request)
    → AreModes q e wanted (passing (has q e wanted) 0 192)
modes_are q few few_lists e wanted = record {
  rises = passing_rises (has q e wanted) 0 192;
  exact = λ mode. (
    λ there. alternative_from_has q e wanted mode (in_passing (has q e wanted) 0 192 mode there).2,
    λ alternative.
        let within = few few_lists e mode alternative.0 alternative.1.is_line in
        passing_has (has q e wanted) 0 192 mode (omega arith) (omega (arith, within))
        (has_alternative q e wanted mode alternative),
  );
}

-- modes that are none change no place
skipped_by : (p : ℕ → Bool) (gap from left place : ℕ) → ((m : ℕ) → from ≤ m → m < from + gap → p m ≡ false)
    → slice_get (passing p (from + gap) left) place ≡ slice_get (passing p from (gap + left)) place
skipped_by p zero from left place none =
    let start : from + zero ≡ from = omega arith in
    let many : zero + left ≡ left = omega arith in
    rw (start, many)
skipped_by p (suc gap) from left place none =
    let first = passing-pass p from (gap + left) (none from (omega arith) (omega arith)) in
    let later = skipped_by p gap (from + 1) left place (λ m at below. none m (omega arith) (omega arith)) in
    let start : from + 1 + gap ≡ from + suc gap = omega arith in
    let many : suc gap + left ≡ suc (gap + left) = omega arith in
    rw (← start, many, first) later

pub skipped_to : (p : ℕ → Bool) (from mode left more place : ℕ) → from ≤ mode → from + more ≡ mode + left
    → ((m : ℕ) → from ≤ m → m < mode → p m ≡ false)
    → slice_get (passing p mode left) place ≡ slice_get (passing p from more) place
skipped_to p from mode left more place at same none =
    let gap : from + (mode - from) ≡ mode = omega arith in
    let many : mode - from + left ≡ more = omega arith in
    let past = skipped_by p (mode - from) from left place (λ m above below. none m above (omega arith)) in
    rw gap at (rw many at past)

-- a mode is at the next place
pub at_first : (p : ℕ → Bool) (mode left more place : ℕ) → more ≡ suc left → p mode ≡ true → place ≡ 0
    → slice_get (passing p mode more) place ≡ Some mode
at_first p mode left more place is holds first = rw (is, passing-yes p mode left holds, first)

-- and those after it one place later
pub after_first : (p : ℕ → Bool) (mode left more place next : ℕ) → more ≡ suc left → p mode ≡ true → place ≡ suc next
    → slice_get (passing p (mode + 1) left) next ≡ slice_get (passing p mode more) place
after_first p mode left more place next is holds later = rw (is, passing-yes p mode left holds, later)

-- where none is left, none is at the place
pub at_end : (p : ℕ → Bool) (from more place : ℕ) → ((m : ℕ) → from ≤ m → p m ≡ false)
    → slice_get (passing p from more) place ≡ None
at_end p from more place none =
    let past = skipped_to p from (from + more) zero more place (omega arith) (omega arith) (λ m at within. none m at) in
    let end = passing-end p (from + more) in
    sym past ∙ ap (λ (xs : List ℕ). slice_get xs place) end

-- ---- there is one list of them

pub modes_same : (q : Query) (e : PhysicalExpr) (wanted : Request) (modes others : List ℕ) → AreModes q e wanted modes
    → AreModes q e wanted others → modes ≡ others
modes_same q e wanted modes others are also =
    increasing_one modes others are.rises also.rises (λ m there. (also.exact m).1 ((are.exact m).0 there))
    (λ m there. (are.exact m).1 ((also.exact m).0 there))
