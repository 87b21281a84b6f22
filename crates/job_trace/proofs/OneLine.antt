-- Words have one first line of the trace, with which the trace begins.
use Rattle.std.proofs.Common.{◌≡◌, ℕ, List, ◌++◌, flat_map, map, sym, ap, ◌∙◌}
use Rattle.std.specs.List.{concat}
use Rattle.query_core.specs.declared.query.Query.{Query}
use Rattle.goal_space.specs.Words.{goal_word, IsGoalInRange}
use Rattle.goal_space.specs.declared.goals.GoalKind.{GoalKind}
use Rattle.goal_children.specs.GoalLists.{HaveGoalWords}
use Rattle.goal_children.specs.Over.{IsGoalOver}
use Rattle.goal_children.proofs.OneList.{goals_one}
use Rattle.job_trace.specs.Trace.{IsTraceLine, IsTraceText, trace_line, traced_lines}
use Rattle.job_trace.proofs.Traced.{have_words}

module _ (one : (k l : GoalKind) → IsGoalInRange k → IsGoalInRange l → goal_word k ≡ goal_word l → k ≡ l) where
  -- words are those of one list of goals
  same_goals : (words : List ℕ) (kinds others : List GoalKind) → HaveGoalWords words kinds → HaveGoalWords words others
      → kinds ≡ others
  same_goals words kinds others have again =
      goals_one one kinds others have.in_range again.in_range (have.numbers ∙ sym again.numbers)

  -- so their first lines are one
  pub one_line : (goals line other : List ℕ) → IsTraceLine goals line → IsTraceLine goals other → line ≡ other
  one_line goals line other is again = is.is_line
      ∙ ap trace_line (same_goals goals is.kinds again.kinds is.have again.have) ∙ sym again.is_line

  -- and that of the trace's text
  pub begins : (q : Query) → ((goal : GoalKind) → IsGoalOver q goal → IsGoalInRange goal)
      → (members goals text line : List ℕ) → IsTraceText q members goals text → IsTraceLine goals line
      → (rest : List ℕ) × (text ≡ line ++ rest)
  begins q in_range members goals text line is first =
      let rest : List ℕ = concat (flat_map (traced_lines q) is.traced) in
      let kinds : map (λ t. t.goal) is.traced ≡ first.kinds =
      same_goals goals _ first.kinds (have_words q goals _ in_range is.are.are_goals) first.have in
      (rest, is.lines ∙ ap (λ start. start ++ rest) (ap trace_line kinds ∙ sym first.is_line))
