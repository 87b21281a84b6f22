-- A goal has one answer at most.
use Rattle.std.proofs.Common.{◌≡◌, ℕ, sym, subst, ◌∙◌, Option, None, Some}
use Rattle.query_core.specs.declared.query.Query.{Query}
use Rattle.query_core.specs.declared.words.KeyParts.{KeyParts}
use Rattle.request_props.specs.declared.request.Request.{Request}
use Rattle.best_answers.specs.Nodes.{Nodes, modes_of, all_nodes}
use Rattle.best_answers.specs.Best.{IsBest}
use Rattle.best_answers.specs.declared.best.Best.{Best}
use Rattle.goal_space.specs.Words.{goal_word, IsGoalInRange}
use Rattle.goal_space.specs.Goals.{IsGoal}
use Rattle.goal_space.specs.Answers.{IsAnswerTo}
use Rattle.goal_space.specs.declared.goals.GoalKind.{GoalKind}
use Rattle.goal_space.specs.declared.goals.GoalKind.TheVariants.{Exp, ExpE, Xf, Imp, ImpE, Opt, OptE}
use Rattle.goal_rules.specs.Answers.{AreWordsOf, AnswersAreOne}

-- an answer has one pair of words
words_one : (answer : Option Best) (cost node other_cost other_node : ℕ) → AreWordsOf answer cost node
    → AreWordsOf answer other_cost other_node
    → (cost ≡ other_cost) × (node ≡ other_node)
words_one None cost node other_cost other_node (c, n) (d, m) = (c ∙ sym d, n ∙ sym m)
words_one (Some best) cost node other_cost other_node (c, n) (d, m) = (c ∙ sym d, n ∙ sym m)

module _ (q : Query) (
    one : (group : KeyParts) (wanted : Request) (set : Nodes) (answer other : Option Best)
    → IsBest q group wanted set answer → IsBest q group wanted set other
    → answer ≡ other
    ) where
  answer_one : (goal : GoalKind) (answer other : Option Best) → IsAnswerTo q goal answer → IsAnswerTo q goal other
      → answer ≡ other
  answer_one (Exp group) answer other is other_is = is ∙ sym other_is
  answer_one (ExpE e) answer other is other_is = is ∙ sym other_is
  answer_one (Xf e rule) answer other is other_is = is ∙ sym other_is
  answer_one (Imp group) answer other is other_is = is ∙ sym other_is
  answer_one (ImpE e) answer other is other_is = is ∙ sym other_is
  answer_one (Opt group wanted) answer other is other_is = one group wanted all_nodes answer other is other_is
  answer_one (OptE e wanted) answer other is other_is = one e.group wanted (modes_of e) answer other is other_is

  -- goals of one word are one, so their answers are
  pub answers_one : ((goal : GoalKind) → IsGoal q goal → IsGoalInRange goal)
      → ((k l : GoalKind) → IsGoalInRange k → IsGoalInRange l → goal_word k ≡ goal_word l → k ≡ l) → AnswersAreOne q
  answers_one in_range one_word word cost node other_cost other_node is other =
      let same = one_word other.goal is.goal (in_range other.goal other.names.is_goal)
      (in_range is.goal is.names.is_goal) (other.names.number ∙ sym is.names.number) in
      let to_goal : IsAnswerTo q is.goal other.answer =
      subst (λ (g : GoalKind). IsAnswerTo q g other.answer) same other.is_answer in
      let answers_same = answer_one is.goal other.answer is.answer to_goal is.is_answer in
      words_one is.answer cost node other_cost other_node is.words
      (subst (λ (a : Option Best). AreWordsOf a other_cost other_node) answers_same other.words)
