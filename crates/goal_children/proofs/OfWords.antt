-- The goals of words, one after the other.
use Rattle.std.proofs.Common.{◌≡◌, ℕ, ◌+◌, ◌<◌, List, [], ◌∷◌, ◌++◌, length, get_or, take, refl, sym, subst, ap, ◌∙◌}
use Rattle.std.proofs.Common.{arith}
use Rattle.std.proofs.lemmas.List.{map-append, take_more}
use Rattle.std.proofs.lemmas.List.Elements.{All-push}
use Rattle.goal_space.specs.Words.{goal_word, HasWord, IsGoalInRange}
use Rattle.goal_space.specs.declared.goals.GoalKind.{GoalKind}
use Rattle.goal_children.specs.GoalLists.{HaveGoalWords, IsWordOfGoal}

-- of no words
pub no_words : HaveGoalWords [] []
no_words = record { numbers = refl; in_range = λ k d within. absurd (omega (arith, within)) }

-- with the goal of one more word
pub one_more_word : (words : List ℕ) (i : ℕ) (goals : List GoalKind) (known : GoalKind) → i < length words
    → IsWordOfGoal (get_or words i 0)
    → ((k : GoalKind) → HasWord k (get_or words i 0) → k ≡ known) → HaveGoalWords (take i words) goals
    → HaveGoalWords (take (i + 1) words) (goals ++ known ∷ [])
one_more_word words i goals known within (goal, has) only have =
    let is : HasWord known (get_or words i 0) =
    subst (λ (k : GoalKind). HasWord k (get_or words i 0)) (only goal has) has in
    let more : take (i + 1) words ≡ take i words ++ get_or words i 0 ∷ [] = take_more words i 0 within in
    record {
      numbers = map-append goal_word goals (known ∷ []) ∙ ap (λ ws. ws ++ goal_word known ∷ []) have.numbers
          ∙ ap (λ w. take i words ++ w ∷ []) is.number ∙ sym more;
      in_range = All-push IsGoalInRange goals known have.in_range is.in_range;
    }
