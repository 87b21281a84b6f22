-- A word is that of one goal, so its children and what it asks for are that goal's.
use Rattle.std.proofs.Common.{◌≡◌, ℕ, ◌∙◌, refl, sym, subst}
use Rattle.query_core.specs.declared.query.Query.{Query}
use Rattle.xform_rules.specs.Closure.{IsMember}
use Rattle.request_props.specs.Numbered.{IsWithinLimits}
use Rattle.goal_space.specs.Words.{goal_word, IsGoalInRange}
use Rattle.goal_space.specs.Children.{IsChildGoal}
use Rattle.goal_space.specs.Asked.{AsksFor}
use Rattle.goal_space.specs.Goals.{child_goal}
use Rattle.goal_space.specs.Entries.{NamesGoal}
use Rattle.goal_space.specs.Laws.{GoalsHaveWords}
use Rattle.goal_space.specs.declared.goals.GoalKind.{GoalKind}
use Rattle.job_turns.specs.Laws.{ChildrenAreKnown, AskedAreKnown, ChildrenHaveWords}

-- no two goals have one word
abbrev pub WordsAreOne : Type 0
WordsAreOne = (k l : GoalKind) → IsGoalInRange k → IsGoalInRange l → goal_word k ≡ goal_word l → k ≡ l

module _ (q : Query) where
  same_goal : WordsAreOne → GoalsHaveWords q → IsWithinLimits q → (word : ℕ) (goal other : GoalKind)
      → NamesGoal q word goal
      → NamesGoal q word other → other ≡ goal
  same_goal one words small word goal other names also =
      one other goal (words small.few_lists small.few_orders other also.is_goal)
      (words small.few_lists small.few_orders goal names.is_goal) (also.number ∙ sym names.number)

  pub children_known : WordsAreOne → GoalsHaveWords q → ChildrenAreKnown q
  children_known one words small goal word child names is = (
    is.other,
    subst (λ k. IsChildGoal (IsMember q) q k is.other)
        (same_goal one words small word goal is.goal names is.names) is.is_child,
    is.number,
  )

  pub asked_known : WordsAreOne → GoalsHaveWords q → AskedAreKnown q
  asked_known one words small goal word asked names is = (
    is.member,
    subst (λ k. AsksFor q k is.member) (same_goal one words small word goal is.goal names is.names)
        is.asks,
    is.number,
  )

  pub children_worded : GoalsHaveWords q → ChildrenHaveWords q
  children_worded words small goal other word names is_child = (
    record { goal = goal; other = other; names = names; is_child = is_child; number = refl },
    words small.few_lists small.few_orders other (child_goal goal other names.is_goal is_child),
  )
