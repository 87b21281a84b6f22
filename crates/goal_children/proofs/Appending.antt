-- Goals that come to the end of a list whose words rise.
use Rattle.std.proofs.Common.{◌≡◌, ℕ, ◌<◌, ◌↔◌, List, [], ◌∷◌, ◌++◌, ◌⊎◌, inl, inr, All, map, refl, sym, subst, ap, ◌∙◌}
use Rattle.std.proofs.Common.{arith}
use Rattle.std.specs.List.{Contains}
use Rattle.std.specs.List.Sorted.{IsStrictlyIncreasing}
use Rattle.std.proofs.lemmas.List.{map-append}
use Rattle.query_core.proofs.Rising.{rises_push}
use Rattle.query_core.specs.declared.query.Query.{Query}
use Rattle.goal_space.specs.Words.{goal_word, IsGoalInRange}
use Rattle.goal_space.specs.declared.goals.GoalKind.{GoalKind}
use Rattle.goal_children.specs.Children.{AreChildren, IsChildIn}
use Rattle.goal_children.specs.Finding.{AppendsGoals, InsertsGoals}
use Rattle.goal_children.specs.GoalLists.{AreRising}
use Rattle.goal_children.proofs.Collecting.{collects_as, collects_both, collects_nothing, collects_one}
use Rattle.goal_children.proofs.OneList.{goal_of_word}

-- the words of no goals
pub none_rise : AreRising []
none_rise = λ k within. absurd (omega (arith, within))

-- nothing comes, of a kind that has nothing
pub appends_nothing : (Kind : GoalKind → Type 0) (goals : List GoalKind) → ((k : GoalKind) → Kind k → ⊥)
    → AppendsGoals Kind goals goals
appends_nothing Kind goals none = record { collects = collects_nothing Kind goals none; rises = λ rises behind. rises }

-- one goal comes
pub appends_one : (Kind : GoalKind → Type 0) (old new : List GoalKind) (goal : GoalKind)
    → ((k : GoalKind) → (Kind k ↔ (k ≡ goal))) → IsGoalInRange goal → new ≡ old ++ goal ∷ []
    → AppendsGoals Kind old new
appends_one Kind old new goal only in_range comes = record {
  collects = collects_one Kind old new goal only in_range comes;
  rises = λ rises behind.
      let is : Kind goal = (only goal).1 refl in
      let words : map goal_word new ≡ map goal_word old ++ goal_word goal ∷ [] = ap (map goal_word) comes
      ∙ map-append goal_word old (goal ∷ []) in
      subst IsStrictlyIncreasing (sym words) (rises_push (map goal_word old) (goal_word goal) rises (λ word there.
      let (k, within, number) = goal_of_word old word there in
      subst (λ w. w < goal_word goal) number (behind k goal within is)));
}

-- the same kind in other words
pub appends_as : (S T : GoalKind → Type 0) (old new : List GoalKind) → ((k : GoalKind) → S k → T k)
    → ((k : GoalKind) → T k → S k) → AppendsGoals S old new → AppendsGoals T old new
appends_as S T old new to from appends = record {
  collects = collects_as S T old new to from appends.collects;
  rises = λ rises behind. appends.rises rises (λ k l there is. behind k l there (to l is));
}

-- goals of one kind come, and then greater ones of another
pub appends_both : (S T : GoalKind → Type 0) (old middle new : List GoalKind)
    → ((k l : GoalKind) → S k → T l → goal_word k < goal_word l) → AppendsGoals S old middle → AppendsGoals T middle new
    → AppendsGoals (λ k. S k ⊎ T k) old new
appends_both S T old middle new less first second = record {
  collects = collects_both S T old middle new first.collects second.collects;
  rises = λ rises behind. second.rises (first.rises rises (λ k l there is. behind k l there (inl is)))
      (λ k l there is. elim ((first.collects.exact k).0 there) [
        | inl earlier ↦ behind k l earlier (inr is)
        | inr of_first ↦ less k l of_first is
      ]);
}

-- and are one kind
pub appends_more : (S T U : GoalKind → Type 0) (old middle new : List GoalKind)
    → ((k l : GoalKind) → S k → T l → goal_word k < goal_word l)
    → ((k : GoalKind) → (S k ⊎ T k) → U k) → ((k : GoalKind) → U k → S k ⊎ T k) → AppendsGoals S old middle
    → AppendsGoals T middle new → AppendsGoals U old new
appends_more S T U old middle new less to from first second =
    appends_as (λ k. S k ⊎ T k) U old new to from (appends_both S T old middle new less first second)

-- goals that come to their places may come to the end
pub appends_inserted : (Kind : GoalKind → Type 0) (old new : List GoalKind) → InsertsGoals Kind old new
    → AppendsGoals Kind old new
appends_inserted Kind old new inserts = record {
  collects = inserts.collects;
  rises = λ rises behind. inserts.rises rises;
}

-- children of a goal are those of the goal that it is, whether they came to the end or to their places
pub appended_children : (q : Query) (words : List ℕ) (goal is : GoalKind) (old new : List GoalKind) → goal ≡ is
    → AppendsGoals (IsChildIn q words is) old new
    → AppendsGoals (IsChildIn q words goal) old new
appended_children q words goal is old new same appends =
    subst (λ (g : GoalKind). AppendsGoals (IsChildIn q words g) old new) (sym same) appends

pub inserted_children : (q : Query) (words : List ℕ) (goal is : GoalKind) (old new : List GoalKind) → goal ≡ is
    → InsertsGoals (IsChildIn q words is) old new
    → AppendsGoals (IsChildIn q words goal) old new
inserted_children q words goal is old new same inserts =
    appended_children q words goal is old new same (appends_inserted (IsChildIn q words is) old new inserts)

-- children that came to an empty list are all
pub are_children : (q : Query) (words : List ℕ) (goal : GoalKind) (old new : List GoalKind) → old ≡ []
    → AppendsGoals (IsChildIn q words goal) old new → AreChildren q words goal new
are_children q words goal old new none appends =
    let empty : (k : GoalKind) → Contains old k → ⊥ =
    λ k there. (let (i, within, at) = subst (λ (gs : List GoalKind). Contains gs k) none there in
    omega (arith, within)) in
    record {
      rises = appends.rises (subst AreRising (sym none) none_rise) (λ k l there is. absurd (empty k there));
      exact = λ k. (
        λ there. elim ((appends.collects.exact k).0 there) [ inl earlier ↦ absurd (empty k earlier) | inr is ↦ is ],
        λ is. (appends.collects.exact k).1 (inr is),
      );
    }

-- no goals fit
pub none_listed : (goals : List GoalKind) → goals ≡ [] → All IsGoalInRange goals
none_listed goals none = subst (All IsGoalInRange) (sym none) (λ k d within. absurd (omega (arith, within)))
