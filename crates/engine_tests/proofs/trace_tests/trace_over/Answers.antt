use Rattle.std.proofs.Common.{List, ℕ, subst, sym}
use Rattle.goal_children.specs.Over.{AreGoalWords}
use Rattle.engine_tests.proofs.trace_tests.trace_over.Goals as goal

-- the words are those of all goals
pub trace_text-requires-clause-goals : goal.trace_text-requires-clause-goals
trace_text-requires-clause-goals c =
    subst (λ (words : List ℕ). AreGoalWords c.args.query.now words) (sym c.as_slice.ensures)
    (c.goal_lists_are_known.ensures.over c.args.query.now _ c.in_ok-found.ensures.goals)
