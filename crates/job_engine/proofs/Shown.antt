-- Looks that show the root's goal finished show every entry, and so not the board full.
use Rattle.std.proofs.Common.{◌≡◌, ℕ, ◌<◌, ◌⊎◌, List, refl, sym, subst, inl, inr}
use Rattle.query_core.specs.Expressions.{word_of}
use Rattle.query_core.specs.declared.query.Query.{Query}
use Rattle.goal_space.specs.Words.{goal_word}
use Rattle.goal_space.specs.Goals.{IsGoal, root_goal, child_goal, root_goal_of}
use Rattle.goal_space.specs.Entries.{IsEntry}
use Rattle.goal_space.specs.Laws.{MembersAreAsked}
use Rattle.goal_space.specs.declared.goals.GoalKind.{GoalKind}
use Rattle.goal_space.specs.declared.goals.GoalKind.TheVariants.{Imp}
use Rattle.goal_rules.specs.Meaning.{meaning_of}
use Rattle.goal_rules.specs.declared.rules.Rules.{Rules}
use Rattle.board_rule.specs.Looks.{ShowsFull, ShowsClosed, ShowsFinished, seen_closed, child_of, ShowsEntry, asked_by}
use Rattle.board_rule.specs.Looks.{finished}
use Rattle.board_rule.specs.declared.hands.Hands.{Hands}
use Rattle.goal_board.specs.Calls.{LeavesOut}
use Rattle.job_scheduler.specs.Workers.{Later, ShowsGoal}
use Rattle.job_scheduler.specs.Steps.{Steps, TellsDone}
use Rattle.job_scheduler.specs.declared.stepped.Stepped.{Stepped}
use Rattle.job_scheduler.specs.declared.stepped.Stepped.TheVariants as stepped
use Rattle.job_scheduler.proofs.Looking.{closed_later}

module _ (q : Query) (cells : ℕ) (looks : List (ℕ × ℕ)) where
  abbrev Shows : GoalKind → Type 0
  Shows goal = ShowsFinished (meaning_of q) cells looks (goal_word goal)

  -- a finished goal's children are finished
  goals_shown : Shows (root_goal_of q) → (goal : GoalKind) → IsGoal q goal → Shows goal
  goals_shown root _ root_goal = root
  goals_shown root _ (child_goal goal child is_goal is_child) =
      child_of (goal_word goal) (goal_word child) (goals_shown root goal is_goal)
      (record {
        goal = goal;
        other = child;
        names = record { is_goal = is_goal; number = refl };
        is_child = is_child;
        number = refl;
      })

  -- each member is asked for by a finished goal
  entries_shown : Shows (root_goal_of q) → MembersAreAsked q → (word : ℕ) → IsEntry q word
      → ShowsEntry (meaning_of q) cells looks word
  entries_shown root asked word (inl (e, member, is)) =
      let (is_goal, asks) = asked e member in
      subst (ShowsEntry (meaning_of q) cells looks) is
      (asked_by (goal_word (Imp e.group)) (word_of e) (goals_shown root (Imp e.group) is_goal)
      (record {
        goal = Imp e.group;
        member = e;
        names = record { is_goal = is_goal; number = refl };
        asks = asks;
        number = refl;
      }))
  entries_shown root asked word (inr (goal, names)) =
      subst (ShowsEntry (meaning_of q) cells looks) names.number
      (finished (goal_word goal) (goals_shown root goal names.is_goal))

  -- so no entry is left out
  pub not_both : MembersAreAsked q → Shows (root_goal_of q) → LeavesOut (meaning_of q) cells looks → ShowsFull looks → ⊥
  not_both asked root left_out full = let (word, enters, not_shown) = left_out full in
      not_shown (entries_shown root asked word enters)

module _ (q : Query) (cells root number : ℕ) (near : root < cells) (asked : MembersAreAsked q) (v w : Hands Rules) where
  -- a step that found the root finished would have left out an entry
  never_done : ShowsFull v.looks → Later v.looks w.looks
      → ShowsGoal (meaning_of q) w.looks root (goal_word (root_goal_of q)) → TellsDone (meaning_of q) cells root v w → ⊥
  never_done full later shown done =
      let (found, look, set) = full in
      let (head, closed_look, high) = closed_later done.looks.more v.looks root done.closed in
      let closed : ShowsClosed w.looks root = subst (λ (h : Hands Rules). ShowsClosed h.looks root)
      (sym done.looks.hands_are) (head, closed_look, high) in
      not_both q cells w.looks asked (seen_closed (goal_word (root_goal_of q)) root near shown.some_goal shown.stands
      closed) done.left_out (found, later _ found look, set)

  -- where the full word was seen set, the answer of a step is that the board is full
  pub full_again : (result : Stepped) → ShowsFull v.looks → Later v.looks w.looks
      → ShowsGoal (meaning_of q) w.looks root (goal_word (root_goal_of q))
      → Steps (meaning_of q) cells root number v result w
      → (result ≡ stepped.Full) ⊎ (result ≡ stepped.Done) → result ≡ stepped.Full
  full_again result full later shown steps (inl is) = is
  full_again result full later shown steps (inr is) =
      absurd (never_done full later shown (subst (λ (s : Stepped). Steps (meaning_of q) cells root number v s w) is
      steps))
