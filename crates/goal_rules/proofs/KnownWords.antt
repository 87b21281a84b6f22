-- What words of entries stand for.
use Rattle.std.proofs.Common.{◌≡◌, ℕ, sym, subst, inl, inr, arith}
use Rattle.query_core.specs.Expressions.{word_of, IsCandidate, IsPacked}
use Rattle.query_core.specs.Goals.{FitsExpr}
use Rattle.query_core.specs.declared.query.Query.{Query}
use Rattle.query_core.specs.declared.expressions.ExprParts.{ExprParts}
use Rattle.xform_rules.specs.Closure.{IsMember}
use Rattle.goal_space.specs.Words.{goal_word, IsGoalInRange}
use Rattle.goal_space.specs.Children.{IsChildGoal}
use Rattle.goal_space.specs.Goals.{IsGoal}
use Rattle.goal_space.specs.Asked.{AsksFor}
use Rattle.goal_space.specs.Answers.{IsAnswerTo}
use Rattle.goal_space.specs.Entries.{NamesGoal, IsEntry}
use Rattle.goal_space.specs.declared.goals.GoalKind.{GoalKind}
use Rattle.goal_rules.specs.EntryLaws.{goal_high}
use Rattle.goal_rules.specs.Known.{EntriesAreMembers, IsKnownWord}

-- an expression's word is none of a goal
apart : (goal : GoalKind) (word : ℕ) → FitsExpr word → goal_word goal ≡ word → ⊥
apart goal word small same = let high = goal_high goal in absurd (omega (arith, small, same, high))

-- where words are those of one expression
pub entries_members : (q : Query) → ((e f : ExprParts) → IsPacked e → IsPacked f → word_of e ≡ word_of f → e ≡ f)
    → ((e : ExprParts) → IsPacked e → FitsExpr (word_of e))
    → ((e : ExprParts) → IsCandidate q e → IsPacked e) → ((e : ExprParts) → IsMember q e → IsCandidate q e)
    → EntriesAreMembers q
entries_members q one_expr small packed candidates e known (inl (other, member, is)) =
    subst (IsMember q) (one_expr other e (packed other (candidates other member)) (packed e known) is) member
entries_members q one_expr small packed candidates e known (inr (goal, names)) =
    absurd (apart goal (word_of e) (small e (packed e known)) names.number)

-- where words are those of one goal
module _ (q : Query) (
    one_goal : (k l : GoalKind) → IsGoalInRange k → IsGoalInRange l → goal_word k ≡ goal_word l → k ≡ l
    ) (
    in_range : (goal : GoalKind) → IsGoal q goal → IsGoalInRange goal
    ) (
    small_member : (e : ExprParts) → IsMember q e → FitsExpr (word_of e)
    ) (goal : GoalKind) (known : IsGoalInRange goal) where
  named : (other : GoalKind) → NamesGoal q (goal_word goal) other → other ≡ goal
  named other names = one_goal other goal (in_range other names.is_goal) known names.number

  entry_goal : IsEntry q (goal_word goal) → IsGoal q goal
  entry_goal (inl (e, member, is)) = absurd (apart goal (word_of e) (small_member e member) (sym is))
  entry_goal (inr (other, names)) = subst (IsGoal q) (named other names) names.is_goal

  pub known_word : IsKnownWord q goal
  known_word = record {
    entry = entry_goal;
    child = λ word is. (
      is.other,
      subst (λ (g : GoalKind). IsChildGoal (IsMember q) q g is.other)
          (named is.goal is.names) is.is_child,
      is.number,
    );
    asked = λ word is. (
      is.member,
      subst (λ (g : GoalKind). AsksFor q g is.member) (named is.goal is.names) is.asks,
      is.number,
    );
    answer = λ cost node is. (
      is.answer,
      subst (λ (g : GoalKind). IsAnswerTo q g is.answer) (named is.goal is.names)
          is.is_answer,
      is.words,
    );
  }
