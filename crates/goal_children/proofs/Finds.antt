-- Laws of the least word of a kind of goals.
use Rattle.std.proofs.Common.{◌≡◌, ℕ, ◌≤◌, Option, None, Some, sym, subst, arith, ◌⊎◌, inl, inr}
use Rattle.std.specs.Prelude.{nat_lt, IfSome}
use Rattle.std.proofs.lemmas.Bool.{cond_both, ltb-true, ltb-false}
use Rattle.goal_space.specs.Words.{goal_word, IsGoalInRange}
use Rattle.goal_space.specs.declared.goals.GoalKind.{GoalKind}
use Rattle.goal_children.specs.Finding.{IsLeastFrom, FindsFrom, sooner_of}

-- what is found has a word
pub found_in_range : (S : GoalKind → Type 0) (bound : ℕ) (found : Option GoalKind) → FindsFrom S bound found
    → IfSome found IsGoalInRange
found_in_range S bound None finds = tt
found_in_range S bound (Some found) finds = finds.in_range

-- the same kind in other words
pub finds_as : (S T : GoalKind → Type 0) (bound : ℕ) (found : Option GoalKind) → ((k : GoalKind) → S k → T k)
    → ((k : GoalKind) → T k → S k)
    → FindsFrom S bound found → FindsFrom T bound found
finds_as S T bound None to from finds = λ k kind above. finds k (from k kind) above
finds_as S T bound (Some found) to from finds = record {
  is = to found finds.is;
  in_range = finds.in_range;
  from = finds.from;
  least = λ k kind above. finds.least k (from k kind) above;
}

-- of one kind there is nothing from the bound on, so what is found is of the other
pub finds_right : (S T : GoalKind → Type 0) (bound : ℕ) (found : Option GoalKind) → FindsFrom S bound None
    → FindsFrom T bound found
    → FindsFrom (λ k. S k ⊎ T k) bound found
finds_right S T bound None none finds = λ k kind above.
    elim kind [ inl first ↦ none k first above | inr second ↦ finds k second above ]
finds_right S T bound (Some found) none finds = record {
  is = inr finds.is;
  in_range = finds.in_range;
  from = finds.from;
  least = λ k kind above. elim kind [
    | inl first ↦ absurd (none k first above)
    | inr second ↦
        finds.least k second above
  ];
}

-- the lesser word of both kinds
pub finds_left : (S T : GoalKind → Type 0) (bound : ℕ) (found : GoalKind) → IsLeastFrom S bound found
    → ((k : GoalKind) → T k → bound ≤ goal_word k → goal_word found ≤ goal_word k)
    → IsLeastFrom (λ k. S k ⊎ T k) bound found
finds_left S T bound found finds other = record {
  is = inl finds.is;
  in_range = finds.in_range;
  from = finds.from;
  least = λ k kind above. elim kind [ inl first ↦ finds.least k first above | inr second ↦ other k second above ];
}

-- the sooner one is the least of either kind
sooner_finds : (S T : GoalKind → Type 0) (bound : ℕ) (a b : Option GoalKind) → FindsFrom S bound a → FindsFrom T bound b
    → FindsFrom (λ k. S k ⊎ T k) bound (sooner_of a b)
sooner_finds S T bound None b first second = finds_right S T bound b first second
sooner_finds S T bound (Some a) None first second =
    finds_left S T bound a first (λ k kind above. absurd (second k kind above))
sooner_finds S T bound (Some a) (Some b) first second =
    cond_both (nat_lt (goal_word b) (goal_word a)) (Some b) (Some a) (FindsFrom (λ k. S k ⊎ T k) bound)
    (λ less. record {
      is = inr second.is;
      in_range = second.in_range;
      from = second.from;
      least = λ k kind above. elim kind [
        | inl one ↦ omega (arith, ltb-true (goal_word b) (goal_word a) less, first.least k one above)
        | inr other ↦ second.least k other above
      ];
    })
    (λ more. finds_left S T bound a first (λ k kind above.
    omega (arith, ltb-false (goal_word b) (goal_word a) more, second.least k kind above)))

-- the same of what is known to be the sooner one
pub sooner_is : (S T : GoalKind → Type 0) (bound : ℕ) (a b found : Option GoalKind) → found ≡ sooner_of a b
    → FindsFrom S bound a → FindsFrom T bound b
    → FindsFrom (λ k. S k ⊎ T k) bound found
sooner_is S T bound a b found is first second =
    subst (FindsFrom (λ k. S k ⊎ T k) bound) (sym is) (sooner_finds S T bound a b first second)
