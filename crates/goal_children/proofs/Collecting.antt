-- Goals that come to a list.
use Rattle.std.proofs.Common.{◌≡◌, ◌↔◌, List, [], ◌∷◌, ◌++◌, ◌⊎◌, inl, inr, sym, subst}
use Rattle.std.specs.List.{Contains}
use Rattle.std.proofs.lemmas.List.Elements.{All-push, Contains-append_left, Contains-push, Contains-push_cases}
use Rattle.goal_space.specs.Words.{IsGoalInRange}
use Rattle.goal_space.specs.declared.goals.GoalKind.{GoalKind}
use Rattle.goal_children.specs.Finding.{Collects}

-- nothing comes, of a kind that has nothing
pub collects_nothing : (Kind : GoalKind → Type 0) (goals : List GoalKind) → ((k : GoalKind) → Kind k → ⊥)
    → Collects Kind goals goals
collects_nothing Kind goals none = record {
  exact = λ k. (λ there. inl there, λ cases. elim cases [ inl there ↦ there | inr is ↦ absurd (none k is) ]);
  in_range = λ all. all;
}

-- one goal comes
pub collects_one : (Kind : GoalKind → Type 0) (old new : List GoalKind) (goal : GoalKind)
    → ((k : GoalKind) → (Kind k ↔ (k ≡ goal))) → IsGoalInRange goal → new ≡ old ++ goal ∷ []
    → Collects Kind old new
collects_one Kind old new goal only in_range comes = subst (Collects Kind old) (sym comes) (record {
  exact = λ k. (
    λ there. elim (Contains-push_cases old goal k there) [
      | inl earlier ↦ inl earlier
      | inr same ↦
          inr ((only k).1 (sym same))
    ],
    λ cases. elim cases [
      | inl earlier ↦ Contains-append_left old (goal ∷ []) k earlier
      | inr is ↦ subst (Contains (old ++ goal ∷ [])) (sym ((only k).0 is)) (Contains-push old goal)
    ],
  );
  in_range = λ all. All-push IsGoalInRange old goal all in_range;
})

-- the same kind in other words
pub collects_as : (S T : GoalKind → Type 0) (old new : List GoalKind) → ((k : GoalKind) → S k → T k)
    → ((k : GoalKind) → T k → S k) → Collects S old new → Collects T old new
collects_as S T old new to from collects = record {
  exact = λ k. (
    λ there. elim ((collects.exact k).0 there) [ inl earlier ↦ inl earlier | inr is ↦ inr (to k is) ],
    λ cases. (collects.exact k).1 (elim cases as (λ _. Contains old k ⊎ S k) [
      | inl earlier ↦ inl earlier
      | inr is ↦
          inr (from k is)
    ]),
  );
  in_range = collects.in_range;
}

-- two kinds come, one after the other
pub collects_both : (S T : GoalKind → Type 0) (old middle new : List GoalKind) → Collects S old middle
    → Collects T middle new → Collects (λ k. S k ⊎ T k) old new
collects_both S T old middle new first second = record {
  exact = λ k. (
    λ there. elim ((second.exact k).0 there) [
      | inl earlier ↦ elim ((first.exact k).0 earlier) [ inl old_one ↦ inl old_one | inr is ↦ inr (inl is) ]
      | inr is ↦ inr (inr is)
    ],
    λ cases. elim cases [
      | inl earlier ↦ (second.exact k).1 (inl ((first.exact k).1 (inl earlier)))
      | inr kinds ↦ elim kinds [
        | inl is ↦ (second.exact k).1 (inl ((first.exact k).1 (inr is)))
        | inr is ↦ (second.exact k).1 (inr is)
      ]
    ],
  );
  in_range = λ all. second.in_range (first.in_range all);
}
