-- What came of one child that chooses a plan.
use Rattle.std.proofs.Common.{◌≡◌, ◌<◌, ℕ, Option, refl, sym, subst}
use Rattle.std.specs.Prelude.{IfSome}
use Rattle.query_core.specs.declared.query.Query.{Query}
use Rattle.request_props.specs.Numbered.{IsWithinLimits}
use Rattle.board_rule.specs.declared.hands.Hands.{Hands}
use Rattle.goal_board.specs.declared.board.Right.{Right}
use Rattle.goal_board.specs.declared.answers.Answer.{Answer}
use Rattle.best_answers.specs.declared.best.Best.{Best}
use Rattle.board_moves.specs.Moves.{Awaits}
use Rattle.board_moves.specs.declared.progress.Progress.TheVariants as progress
use Rattle.goal_space.specs.Words.{goal_word}
use Rattle.goal_space.specs.Goals.{child_goal}
use Rattle.goal_space.specs.Entries.{NamesGoal}
use Rattle.goal_space.specs.Answers.{IsAnswerTo}
use Rattle.goal_space.specs.declared.goals.GoalKind.{GoalKind}
use Rattle.goal_rules.specs.Meaning.{meaning_of}
use Rattle.goal_rules.specs.Answers.{AreWordsOf}
use Rattle.goal_rules.specs.declared.rules.Rules.{Rules}
use Rattle.job_turns.specs.Works.{IsChildOf}
use Rattle.job_turns.specs.Choices.{most_word, AnswersAreKnown, FindsBest}
use Rattle.job_turns.specs.declared.known_best.KnownBest.TheVariants.{Known}
use Rattle.job_turns.proofs.Awaited.{has_one}

module _ (q : Query) (capacity : ℕ) where
  -- a child of a goal of the query is one of the query, by its own word
  names_child : (word : ℕ) (child : GoalKind) → IsChildOf q word child → NamesGoal q (goal_word child) child
  names_child word child is = record { is_goal = child_goal is.0 child is.1.is_goal is.2; number = refl }

  -- the child is finished, and the words of its answer tell the answer
  pub known_child : IsWithinLimits q → AnswersAreKnown q → (v : Hands Rules) (before : Right) (child : GoalKind)
      → IsChildOf q before.goal child → (answer : Answer) (w : Hands Rules) (after : Right)
      → Awaits (meaning_of q) capacity v before (goal_word child) (progress.Complete answer) w after
      → (best : Option Best)
      → ((other : Option Best) → AreWordsOf other answer.cost answer.node → IfSome other (λ b. b.cost < most_word)
      → best ≡ other)
      → FindsBest q capacity v before (λ goal. goal ≡ child) (IsAnswerTo q child) (Known best) w after
  known_child small known v before child is answer w after t best only =
      let told = known small child (goal_word child) answer.cost answer.node (names_child before.goal child is)
      t.2.exact in
      record {
        awaited = has_one q capacity v before child (progress.Complete answer) w after
            (λ full. let bad : ⊥ = cc in bad) t;
        is = subst (IsAnswerTo q child) (sym (only told.best told.words told.small)) told.is_answer;
      }
