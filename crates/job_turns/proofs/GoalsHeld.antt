-- A goal that is an entry is a goal of the query.
use Rattle.std.proofs.Common.{ℕ, ◌≤◌, inl, inr, arith}
use Rattle.query_core.specs.Expressions.{word_of, IsPacked}
use Rattle.query_core.specs.Goals.{goal_bit, FitsExpr}
use Rattle.query_core.specs.declared.query.Query.{Query}
use Rattle.query_core.specs.declared.expressions.ExprParts.{ExprParts}
use Rattle.xform_rules.specs.Closure.{IsMember}
use Rattle.request_props.specs.Numbered.{IsWithinLimits}
use Rattle.goal_space.specs.Phases.{phase_goal_of_expr}
use Rattle.goal_space.specs.Words.{HasWord, IsGoalInRange}
use Rattle.goal_space.specs.Entries.{IsEntry, IsGoalWord}
use Rattle.goal_space.specs.Laws.{GoalsHaveWords}
use Rattle.goal_space.specs.declared.phase.Phase.{Phase}
use Rattle.goal_space.specs.declared.phase.Phase.TheVariants.{Exploration, Implementation}

module _ (q : Query) where
  -- the word of a member lacks the bit of goals
  pub held_goal : ((e : ExprParts) → IsMember q e → FitsExpr (word_of e)) → (word : ℕ) → IsEntry q word
      → goal_bit ≤ word → IsGoalWord q word
  held_goal small word (inl (e, member, is)) high = let low = small e member in absurd (omega arith)
  held_goal small word (inr named) high = named

  -- the goal that a word names has the word
  pub has_word : GoalsHaveWords q → IsWithinLimits q → (word : ℕ) → (named : IsGoalWord q word) → HasWord named.0 word
  has_word words small word (goal, names) = record {
    in_range = words small.few_lists small.few_orders goal names.is_goal;
    number = names.number;
  }

-- the expression of a goal that has a word has one
pub packed_in_phase : (phase : Phase) (e : ExprParts) → IsGoalInRange (phase_goal_of_expr phase e) → IsPacked e
packed_in_phase Exploration e packed = packed
packed_in_phase Implementation e packed = packed
