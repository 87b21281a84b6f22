-- The goals of the groups that an expression stands on.
use Rattle.std.proofs.Common.{◌≡◌, ℕ, List, Option, refl, sym, subst, ap, ◌∙◌, ◌⊎◌, inl, inr}
use Rattle.query_core.specs.declared.words.KeyParts.{KeyParts}
use Rattle.query_core.specs.declared.expressions.Children.{Children}
use Rattle.query_core.specs.declared.expressions.Children.TheVariants.{Zero, One, Two}
use Rattle.goal_space.specs.declared.goals.GoalKind.{GoalKind}
use Rattle.goal_space.specs.declared.goals.GoalKind.TheVariants.{Exp}
use Rattle.goal_space.specs.declared.phase.Phase.{Phase}
use Rattle.goal_space.specs.Phases.{phase_goal_of_group, IsOfGroups}
use Rattle.goal_children.specs.Finding.{sooner_of, FindsFrom, InsertsGoals, IsOfLeftGroup}
use Rattle.goal_children.proofs.Finds.{finds_as, sooner_is}
use Rattle.goal_children.proofs.Inserting.{inserts_as, inserts_more, inserts_nothing}

module _ (phase : Phase) (left right : KeyParts) (l r : GoalKind) (is_l : l ≡ phase_goal_of_group phase left)
    (is_r : r ≡ phase_goal_of_group phase right) where
  -- the goals of two groups
  two_as : (k : GoalKind) → (k ≡ l) ⊎ (k ≡ r) → IsOfGroups phase (Two left right) k
  two_as k (inl same) = (left, inl refl, same ∙ is_l)
  two_as k (inr same) = (right, inr refl, same ∙ is_r)

  as_two : (k : GoalKind) → IsOfGroups phase (Two left right) k → (k ≡ l) ⊎ (k ≡ r)
  as_two k (group, child, same) = elim child [
    | inl at ↦ inl (same ∙ ap (phase_goal_of_group phase) at ∙ sym is_l)
    | inr at ↦ inr (same ∙ ap (phase_goal_of_group phase) at ∙ sym is_r)
  ]

  -- the first is the sooner one
  two_finds : (bound : ℕ) (a b found : Option GoalKind) → found ≡ sooner_of a b → FindsFrom (λ k. k ≡ l) bound a
      → FindsFrom (λ k. k ≡ r) bound b
      → FindsFrom (IsOfGroups phase (Two left right)) bound found
  two_finds bound a b found is first second =
      finds_as (λ k. (k ≡ l) ⊎ (k ≡ r)) (IsOfGroups phase (Two left right)) bound found two_as as_two
      (sooner_is (λ k. k ≡ l) (λ k. k ≡ r) bound a b found is first second)

-- the same of children that are two groups
pub groups_find : (phase : Phase) (children : Children) (left right : KeyParts) (bound : ℕ)
    (a b found : Option GoalKind) (l r : GoalKind) → children ≡ Two left right
    → l ≡ phase_goal_of_group phase left → r ≡ phase_goal_of_group phase right → found ≡ sooner_of a b
    → FindsFrom (λ k. k ≡ l) bound a → FindsFrom (λ k. k ≡ r) bound b
    → FindsFrom (IsOfGroups phase children) bound found
groups_find phase children left right bound a b found l r are is_l is_r is first second =
    subst (λ (x : Children). FindsFrom (IsOfGroups phase x) bound found) (sym are)
    (two_finds phase left right l r is_l is_r bound a b found is first second)

-- ---- goals that come to a list

-- of no groups none
pub no_groups_inserted : (phase : Phase) (children : Children) (goals : List GoalKind) → children ≡ Zero
    → InsertsGoals (IsOfGroups phase children) goals goals
no_groups_inserted phase children goals are =
    subst (λ (x : Children). InsertsGoals (IsOfGroups phase x) goals goals) (sym are)
    (inserts_nothing (IsOfGroups phase Zero) goals (λ k (group, child, same). child))

-- of one group its goal
pub one_group_inserted : (phase : Phase) (children : Children) (group : KeyParts) (old new : List GoalKind)
    (goal : GoalKind) → children ≡ One group → goal ≡ phase_goal_of_group phase group
    → InsertsGoals (λ k. k ≡ goal) old new → InsertsGoals (IsOfGroups phase children) old new
one_group_inserted phase children group old new goal are is inserts =
    subst (λ (x : Children). InsertsGoals (IsOfGroups phase x) old new) (sym are)
    (inserts_as (λ k. k ≡ goal) (IsOfGroups phase (One group)) old new (λ k same. (group, refl, same ∙ is))
    (λ k (child, at, same). same ∙ ap (phase_goal_of_group phase) at ∙ sym is) inserts)

-- of two groups the goals of both
pub two_groups_inserted : (phase : Phase) (children : Children) (left right : KeyParts) (old middle new : List GoalKind)
    (l r : GoalKind) → children ≡ Two left right
    → l ≡ phase_goal_of_group phase left → r ≡ phase_goal_of_group phase right → InsertsGoals (λ k. k ≡ l) old middle
    → InsertsGoals (λ k. k ≡ r) middle new → InsertsGoals (IsOfGroups phase children) old new
two_groups_inserted phase children left right old middle new l r are is_l is_r first second =
    subst (λ (x : Children). InsertsGoals (IsOfGroups phase x) old new) (sym are)
    (inserts_more (λ k. k ≡ l) (λ k. k ≡ r) (IsOfGroups phase (Two left right)) old middle new
    (two_as phase left right l r is_l is_r) (as_two phase left right l r is_l is_r) first second)

-- the goal of the left group
pub no_left_inserted : (children : Children) (goals : List GoalKind) → children ≡ Zero
    → InsertsGoals (IsOfLeftGroup children) goals goals
no_left_inserted children goals are =
    subst (λ (x : Children). InsertsGoals (IsOfLeftGroup x) goals goals) (sym are)
    (inserts_nothing (IsOfLeftGroup Zero) goals (λ k (group, left, same). left))

pub one_left_inserted : (children : Children) (child : KeyParts) (old new : List GoalKind) → children ≡ One child
    → InsertsGoals (λ k. k ≡ Exp child) old new
    → InsertsGoals (IsOfLeftGroup children) old new
one_left_inserted children child old new are inserts =
    subst (λ (x : Children). InsertsGoals (IsOfLeftGroup x) old new) (sym are)
    (inserts_as (λ k. k ≡ Exp child) (IsOfLeftGroup (One child)) old new (λ k same. (child, refl, same))
    (λ k (group, left, same). same ∙ ap Exp left) inserts)

pub two_left_inserted : (children : Children) (left right : KeyParts) (old new : List GoalKind)
    → children ≡ Two left right → InsertsGoals (λ k. k ≡ Exp left) old new
    → InsertsGoals (IsOfLeftGroup children) old new
two_left_inserted children left right old new are inserts =
    subst (λ (x : Children). InsertsGoals (IsOfLeftGroup x) old new) (sym are)
    (inserts_as (λ k. k ≡ Exp left) (IsOfLeftGroup (Two left right)) old new (λ k same. (left, refl, same))
    (λ k (group, at, same). same ∙ ap Exp at) inserts)
