use Rattle.std.proofs.Common.{List, ℕ, subst, sym}
use Rattle.goal_children.specs.Over.{AreGoalWords}
use Rattle.engine_tests.proofs.child_tests.goals_with_children.Goals as goal

-- the words are those of all goals
pub push_children-requires-clause-goals : goal.push_children-requires-clause-goals
push_children-requires-clause-goals c =
    subst (λ (words : List ℕ). AreGoalWords c.args.query.now words) (sym c.as_slice.ensures)
    (c.goal_lists_are_known.ensures.over c.args.query.now _ c.in_ok-found.ensures.goals)
