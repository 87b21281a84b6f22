-- The lines of the trace as the program adds them.
use Rattle.std.specs.Prelude.{ℕ, ◌≡◌, List, All, flat_map, map}
use Rattle.std.specs.List.{concat}
use Rattle.query_core.specs.declared.query.Query.{Query}
use Rattle.goal_space.specs.declared.goals.GoalKind.{GoalKind}
use Rattle.goal_children.specs.Children.{AreChildren}
use Rattle.query_text.specs.Added.{AddsText}
use Rattle.job_trace.specs.Trace.{Traced, traced_lines}

-- the lines of the goals were added, each goal's with those of its children behind
pub record AddsTraced (q : Query) (members : List ℕ) (goals : List GoalKind) (before after : List ℕ) : Type 0 where
  pub traced : List Traced
  pub are_goals : map (λ t. t.goal) traced ≡ goals
  pub children : All (λ t. AreChildren q members t.goal t.children) traced
  pub adds : AddsText before (concat (flat_map (traced_lines q) traced)) after
