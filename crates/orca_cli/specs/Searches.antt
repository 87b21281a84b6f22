-- What the search of a query gives, and the plan that is made of it.
use Rattle.std.specs.Prelude.{◌≡◌, ◌<◌, ℕ, List, All, length}
use Rattle.query_core.specs.declared.query.Query.{Query}
use Rattle.xform_rules.specs.Closure.{IsClosureOf}
use Rattle.request_props.specs.Numbered.{IsProps}
use Rattle.goal_children.specs.Listed.{AreGoalsOf}
use Rattle.plan_tree.specs.declared.plan.Found.{Found}
use Rattle.plan_tree.specs.declared.plan.Found.TheVariants as found
use Rattle.plan_tree.specs.declared.plan.Found.TheVariants.{Least}
use Rattle.orca_cli.specs.Answers.{IsPlanText, IsImpossible}
use Rattle.orca_cli.specs.Texts.{no_plan}
use Rattle.orca_cli.specs.declared.answer.Search.{Search}
use Rattle.orca_cli.specs.declared.status.Status.{Status}
use Rattle.orca_cli.specs.declared.status.Status.TheVariants.{Planned, NoPlan}

-- the query with its props, all its members and its goals, and for each goal the number of one of so many workers
pub record IsSearch (search : Search) (workers : ℕ) : Type 0 where
  pub props : IsProps search.query.now search.props.now
  pub closure : IsClosureOf search.query.now search.members.now
  pub all_goals : AreGoalsOf search.query.now search.goals.now
  pub one_each : length search.who.now ≡ length search.goals.now
  pub below : All (λ worker. worker < workers) search.who.now

-- the query's least plan, or that it has none
pub data IsPlanOf (query : Query) (status : Status) (text : List ℕ) : Type 0 where
  least : status ≡ Planned → IsPlanText query text → IsPlanOf query status text
  none : status ≡ NoPlan → IsImpossible query → text ≡ no_plan → IsPlanOf query status text

-- the status of what was found
abbrev pub status_for : Found → Status
status_for (Least plan cost) = Planned
status_for found.NoPlan = NoPlan
