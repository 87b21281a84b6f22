-- The goals of a query.
use Rattle.query_core.specs.Keys.{root_of}
use Rattle.query_core.specs.declared.query.Query.{Query}
use Rattle.xform_rules.specs.Closure.{IsMember}
use Rattle.request_props.specs.Numbered.{root_request}
use Rattle.goal_space.specs.Children.{IsChildGoal}
use Rattle.goal_space.specs.declared.goals.GoalKind.{GoalKind}
use Rattle.goal_space.specs.declared.goals.GoalKind.TheVariants.{Opt}

-- the goal of the whole query: the root's group for what is asked of the whole plan
abbrev pub root_goal_of : Query → GoalKind
root_goal_of q = Opt (root_of q) (root_request q)

-- the least set that has the root's goal, and with a goal its children over the members of the query's groups
pub data IsGoal (q : Query) : GoalKind → Type 0 where
  root_goal : IsGoal q (root_goal_of q)
  child_goal : (goal child : GoalKind) → IsGoal q goal → IsChildGoal (IsMember q) q goal child → IsGoal q child
