-- The promise of a goal, by its children and by what it asks for, and the answer of a goal that chooses no plan.
use Rattle.std.proofs.Common.{ℕ, List, refl, subst, inl}
use Rattle.query_core.specs.Expressions.{word_of}
use Rattle.query_core.specs.declared.query.Query.{Query}
use Rattle.query_core.specs.declared.expressions.ExprParts.{ExprParts}
use Rattle.xform_rules.specs.Closure.{IsMember}
use Rattle.request_props.specs.Numbered.{IsWithinLimits}
use Rattle.board_rule.specs.Looks.{ShowsFinished, ShowsEntry, ShowsPromise}
use Rattle.board_rule.specs.declared.hands.Hands.{Hands}
use Rattle.goal_board.specs.declared.board.Right.{Right}
use Rattle.board_moves.specs.declared.progress.Progress.{Progress}
use Rattle.board_moves.specs.Moves.{Proceeds, RunsOut, IsDoneUnlessWaiting}
use Rattle.board_moves.proofs.MovesLemmas.{proceeds_wider, runs_out_wider}
use Rattle.board_moves.proofs.Working.{works_end}
use Rattle.goal_space.specs.Words.{goal_word}
use Rattle.goal_space.specs.Children.{IsChildGoal}
use Rattle.goal_space.specs.Asked.{AsksFor}
use Rattle.goal_space.specs.Answers.{IsAnswerTo, no_choice}
use Rattle.goal_space.specs.Entries.{NamesGoal, IsChildWord}
use Rattle.goal_space.specs.declared.goals.GoalKind.{GoalKind}
use Rattle.goal_rules.specs.Meaning.{meaning_of}
use Rattle.goal_rules.specs.declared.rules.Rules.{Rules}
use Rattle.job_turns.specs.Laws.{ChildrenAreKnown, AskedAreKnown}
use Rattle.job_turns.specs.Works.{AddsWord, HasAwaited, WorksOn}

module _ (q : Query) (children : ChildrenAreKnown q) (small : IsWithinLimits q) (goal : GoalKind) where
  -- a child's word may be put in
  pub child_adds : (word : ℕ) → NamesGoal q word goal → (child : ℕ) → IsChildWord q word child → AddsWord q goal child
  child_adds word names child is = inl (children small goal word child names is)

  pub goes_on : (v : Hands Rules) (before : Right) (w : Hands Rules) (after : Right) → NamesGoal q before.goal goal
      → Proceeds (IsChildWord q before.goal) v before w after → Proceeds (AddsWord q goal) v before w after
  goes_on v before w after names t = proceeds_wider (IsChildWord q before.goal) (AddsWord q goal)
      (child_adds before.goal names) v before w after t

  pub runs_out : (capacity : ℕ) (v : Hands Rules) (before : Right) (w : Hands Rules) (after : Right)
      → NamesGoal q before.goal goal → RunsOut (IsChildWord q before.goal) v before capacity w after
      → RunsOut (AddsWord q goal) v before capacity w after
  runs_out capacity v before w after names t =
      runs_out_wider (IsChildWord q before.goal) (AddsWord q goal) (child_adds before.goal names) capacity v before w
      after t

  -- the promise is shown where all children are shown finished, and all that the goal asks for in cells
  pub promise_shown : (asked : AskedAreKnown q) (capacity : ℕ) (looks : List (ℕ × ℕ)) (word : ℕ) → NamesGoal q word goal
      → ((child : GoalKind) → IsChildGoal (IsMember q) q goal child
      → ShowsFinished (meaning_of q) capacity looks (goal_word child))
      → ((e : ExprParts) → AsksFor q goal e → ShowsEntry (meaning_of q) capacity looks (word_of e))
      → ShowsPromise (meaning_of q) capacity looks word
  promise_shown asked capacity looks word names finished shown = record {
    children = λ child is. let t = children small goal word child names is in
        subst (ShowsFinished (meaning_of q) capacity looks) t.2 (finished t.0 t.1);
    asked = λ other is. let t = asked small goal word other names is in
        subst (ShowsEntry (meaning_of q) capacity looks) t.2 (shown t.0 t.1);
  }

  -- the end of the work of a goal that asks for nothing and chooses no plan
  pub works_of_children : (asked : AskedAreKnown q) → ((e : ExprParts) → AsksFor q goal e → ⊥)
      → IsAnswerTo q goal no_choice → (Wanted : GoalKind → Type 0)
      → ((child : GoalKind) → IsChildGoal (IsMember q) q goal child → Wanted child)
      → (capacity : ℕ) (v : Hands Rules) (before : Right) (w : Hands Rules) (after : Right) (result : Progress)
      → NamesGoal q before.goal goal → HasAwaited q capacity v before Wanted w after
      → IsDoneUnlessWaiting after (record { cost = 0; node = 0 }) result
      → WorksOn q capacity v before goal result w after
  works_of_children asked nothing is_answer Wanted all capacity v before w after result names t done =
      works_end (meaning_of q) capacity (AddsWord q goal) v before w after (record { cost = 0; node = 0 }) result
      (goes_on v before w after names t.proceeds)
      (λ none. promise_shown asked capacity w.looks before.goal names (λ child is. t.finished none child (all child is))
      (λ e asks. absurd (nothing e asks)))
      (record { goal = goal; names = names; answer = no_choice; is_answer = is_answer; words = (refl, refl) }) done
