-- Words of candidates, looked at one after the other.
use Rattle.std.proofs.Common.{◌≡◌, ℕ, ◌+◌, ◌<◌, List, [], get_or, length, take, sym, subst, ◌∙◌, inl, inr, arith}
use Rattle.std.specs.List.{Contains}
use Rattle.std.proofs.lemmas.List.{take_more}
use Rattle.std.proofs.lemmas.List.Elements.{Contains-push_cases}
use Rattle.query_core.specs.Expressions.{HasWord, IsCandidate, IsCandidateWord, IsPacked, IsWord}
use Rattle.query_core.specs.declared.query.Query.{Query}
use Rattle.query_core.specs.declared.expressions.ExprParts.{ExprParts}
use Rattle.goal_space.specs.declared.goals.GoalKind.{GoalKind}
use Rattle.goal_children.specs.declared.jobs.MemberJob.{MemberJob}
use Rattle.goal_children.specs.MemberJobs.{HaveNoGoals, IsGoalOf}

module _ (q : Query) (packed : (e : ExprParts) → IsCandidate q e → IsPacked e) where
  -- the word of a candidate is that of an expression
  pub known_word : (word : ℕ) → IsCandidateWord q word → IsWord word
  known_word word (e, candidate, number) = (e, record { packed = packed e candidate; number = number })

  -- which is the candidate
  pub candidate_of_word : (word : ℕ) (known : ExprParts) → ((e : ExprParts) → HasWord word e → e ≡ known)
      → IsCandidateWord q word → IsCandidate q known
  candidate_of_word word known only (e, candidate, number) =
      subst (IsCandidate q) (only e (record { packed = packed e candidate; number = number })) candidate

  -- none of the words up to one more place has a goal
  pub none_more : (job : MemberJob) (words : List ℕ) (i : ℕ) (known : ExprParts) → i < length words
      → ((e : ExprParts) → HasWord (get_or words i 0) e → e ≡ known)
      → HaveNoGoals q job (take i words) → ((goal : GoalKind) → IsGoalOf q job known goal → ⊥)
      → HaveNoGoals q job (take (i + 1) words)
  none_more job words i known within only before none goal (word, there, (e, candidate, number, is)) =
      elim (Contains-push_cases (take i words) (get_or words i 0) word
      (subst (λ (ws : List ℕ). Contains ws word) (take_more words i 0 within) there)) [
        | inl earlier ↦ before goal (word, earlier, (e, candidate, number, is))
        | inr same ↦ none goal (subst (λ (x : ExprParts). IsGoalOf q job x goal)
            (only e (record { packed = packed e candidate; number = number ∙ sym same })) is)
      ]

-- no words, no goals
pub none_first : (q : Query) (job : MemberJob) → HaveNoGoals q job []
none_first q job goal (word, (place, within, at), of_word) = absurd (omega (arith, within))
