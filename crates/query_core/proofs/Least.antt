-- Laws of the least word of a kind of expressions.
use Rattle.std.proofs.Common.{◌≡◌, ℕ, ◌+◌, ◌<◌, ◌≤◌, Option, None, Some, sym, subst, arith}
use Rattle.std.proofs.Common.{◌⊎◌, inl, inr}
use Rattle.std.specs.Prelude.{nat_lt}
use Rattle.std.proofs.lemmas.Bool.{cond_both, cases_lt, cases_eq, ltb-true, ltb-false}
use Rattle.query_core.specs.Expressions.{word_of}
use Rattle.query_core.specs.Finding.{IsAt, IsBefore, IsLeastFrom, FindsFrom, sooner_of}
use Rattle.query_core.specs.declared.words.Expr.{Expr}
use Rattle.query_core.specs.declared.expressions.ExprParts.{ExprParts}
use Rattle.query_core.proofs.GroupLemmas.{group_in_range}

-- the same kind in other words
pub finds_as : (S T : ExprParts → Type 0) (bound : ℕ) (found : Option Expr) → ((e : ExprParts) → S e → T e)
    → ((e : ExprParts) → T e → S e)
    → FindsFrom S bound found → FindsFrom T bound found
finds_as S T bound None to from finds = λ e kind above. finds e (from e kind) above
finds_as S T bound (Some found) to from finds = record {
  there = (finds.there.0, to _ finds.there.1, finds.there.2);
  from = finds.from;
  least = λ e kind above. finds.least e (from e kind) above;
}

-- of a kind that has nothing, nothing is found
pub finds_none : (S : ExprParts → Type 0) (bound : ℕ) → ((e : ExprParts) → S e → ⊥) → FindsFrom S bound None
finds_none S bound none e kind above = none e kind

-- of one kind there is nothing from the bound on, so what is found is of the other
finds_right : (S T : ExprParts → Type 0) (bound : ℕ) (found : Option Expr) → FindsFrom S bound None
    → FindsFrom T bound found
    → FindsFrom (λ e. S e ⊎ T e) bound found
finds_right S T bound None none finds = λ e kind above.
    elim kind [ inl first ↦ none e first above | inr second ↦ finds e second above ]
finds_right S T bound (Some found) none finds = record {
  there = (finds.there.0, inr finds.there.1, finds.there.2);
  from = finds.from;
  least = λ e kind above. elim kind [
    | inl first ↦ absurd (none e first above)
    | inr second ↦
        finds.least e second above
  ];
}

-- the lesser word of both kinds
finds_left : (S T : ExprParts → Type 0) (bound : ℕ) (found : Expr) → IsLeastFrom S bound found.0
    → ((e : ExprParts) → T e → bound ≤ word_of e → found.0 ≤ word_of e) → IsLeastFrom (λ e. S e ⊎ T e) bound found.0
finds_left S T bound found finds other = record {
  there = (finds.there.0, inl finds.there.1, finds.there.2);
  from = finds.from;
  least = λ e kind above. elim kind [ inl first ↦ finds.least e first above | inr second ↦ other e second above ];
}

-- the sooner one is the least of either kind
pub sooner_finds : (S T : ExprParts → Type 0) (bound : ℕ) (a b : Option Expr) → FindsFrom S bound a
    → FindsFrom T bound b
    → FindsFrom (λ e. S e ⊎ T e) bound (sooner_of a b)
sooner_finds S T bound None b first second = finds_right S T bound b first second
sooner_finds S T bound (Some a) None first second =
    finds_left S T bound a first (λ e kind above. absurd (second e kind above))
sooner_finds S T bound (Some a) (Some b) first second =
    cond_both (nat_lt b.0 a.0) (Some b) (Some a) (FindsFrom (λ e. S e ⊎ T e) bound)
    (λ less. record {
      there = (second.there.0, inr second.there.1, second.there.2);
      from = second.from;
      least = λ e kind above. elim kind [
        | inl one ↦ omega (arith, ltb-true b.0 a.0 less, first.least e one above)
        | inr other ↦ second.least e other above
      ];
    })
    (λ more. finds_left S T bound a first (λ e kind above.
    omega (arith, ltb-false b.0 a.0 more, second.least e kind above)))

-- the same of what is known to be the sooner one
pub sooner_is : (S T : ExprParts → Type 0) (bound : ℕ) (a b found : Option Expr) → found ≡ sooner_of a b
    → FindsFrom S bound a → FindsFrom T bound b
    → FindsFrom (λ e. S e ⊎ T e) bound found
sooner_is S T bound a b found is first second =
    subst (FindsFrom (λ e. S e ⊎ T e) bound) (sym is) (sooner_finds S T bound a b first second)

-- ---- places, one after the other

module _ (Kind : ExprParts → Type 0) (place_of : ExprParts → ℕ) (bound : ℕ) where
  -- nothing stands before the first place
  pub none_yet : FindsFrom (IsBefore Kind place_of 0) bound None
  none_yet e (kind, less) above = omega (arith, less)

  -- those at a place join those before it
  pub finds_more : (place : ℕ) (before this found : Option Expr) → found ≡ sooner_of before this
      → FindsFrom (IsBefore Kind place_of place) bound before → FindsFrom (IsAt Kind place_of place) bound this
      → FindsFrom (IsBefore Kind place_of (place + 1)) bound found
  finds_more place before this found is first second =
      finds_as (λ e. IsBefore Kind place_of place e ⊎ IsAt Kind place_of place e)
      (IsBefore Kind place_of (place + 1)) bound found
      (λ e both. elim both [
        | inl (kind, less) ↦ (kind, omega (arith, less))
        | inr (kind, same) ↦ (kind, omega (arith, same))
      ])
      (λ e (kind, less). elim (cases_lt (place_of e) place) [
        | inl lesser ↦ inl (kind, lesser)
        | inr more ↦ inr (kind, omega (arith, less, more))
      ])
      (sooner_is (IsBefore Kind place_of place) (IsAt Kind place_of place) bound before this found is first second)

  -- where all stand before a place, those before it are all
  pub finds_all : (place : ℕ) (found : Option Expr) → ((e : ExprParts) → Kind e → place_of e < place)
      → FindsFrom (IsBefore Kind place_of place) bound found → FindsFrom Kind bound found
  finds_all place found all =
      finds_as (IsBefore Kind place_of place) Kind bound found (λ e (kind, less). kind) (λ e kind. (kind, all e kind))

  -- where words ascend with places, the least of the first place that has any is the least of all
  pub finds_first : ((e f : ExprParts) → Kind e → Kind f → place_of e < place_of f → word_of e < word_of f)
      → (place : ℕ) (found : Expr) → FindsFrom (IsBefore Kind place_of place) bound None
      → IsLeastFrom (IsAt Kind place_of place) bound found.0 → IsLeastFrom Kind bound found.0
  finds_first rise place found before finds =
      let (first, (first_kind, at), word) = finds.there in
      record {
        there = (first, first_kind, word);
        from = finds.from;
        least = λ e kind above. elim (cases_lt (place_of e) place) [
          | inl lesser ↦ absurd (before e (kind, lesser) above)
          | inr more ↦ elim (cases_eq (place_of e) place) [
            | inl same ↦ finds.least e (kind, same) above
            | inr differs ↦ omega (arith, rise first e first_kind kind (omega (arith, at, more, differs)), word)
          ]
        ];
      }

pub ruleset packing = (arith, group_in_range)
