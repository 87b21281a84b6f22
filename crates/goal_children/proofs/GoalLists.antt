-- What all lists of the goals of a query have in common.
use Rattle.std.proofs.Common.{◌≡◌, ℕ, List, subst, ◌∙◌}
use Rattle.std.specs.Prelude.{All}
use Rattle.std.specs.List.{Contains}
use Rattle.query_core.specs.declared.query.Query.{Query}
use Rattle.xform_rules.proofs.OneClosure.{increasing_one}
use Rattle.goal_space.specs.Goals.{IsGoal}
use Rattle.goal_space.specs.declared.goals.GoalKind.{GoalKind}
use Rattle.goal_children.specs.Over.{IsGoalOver, IsGoalWordOver}
use Rattle.goal_children.specs.Listed.{AreGoalsOf}

-- the words of one list are among those of the other
among : (q : Query) (words others : List ℕ) → AreGoalsOf q words → AreGoalsOf q others → (word : ℕ)
    → Contains words word → Contains others word
among q words others is again word (k, within, at) =
    let (goal, names) = is.sound k word within in
    subst (Contains others) (names.number ∙ at) (again.complete goal names.is_goal)

-- so they are one
pub lists_one : (q : Query) (words others : List ℕ) → AreGoalsOf q words → AreGoalsOf q others → words ≡ others
lists_one q words others is again = increasing_one words others is.ascending again.ascending
    (among q words others is again) (among q others words again is)

-- of goals over the query
pub list_over : (q : Query) (words : List ℕ) → ((goal : GoalKind) → IsGoal q goal → IsGoalOver q goal)
    → AreGoalsOf q words → All (IsGoalWordOver q) words
list_over q words over is k d within = let (goal, names) = is.sound k d within in
    (goal, over goal names.is_goal, names.number)
