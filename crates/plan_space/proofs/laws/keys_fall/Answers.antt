use Rattle.query_core.specs.Expressions.{physical_children}
use Rattle.plan_space.proofs.Children.{children_lesser, child_key}
use Rattle.plan_space.proofs.laws.keys_fall.Goals as goal

-- a table's rows come before those that meet its predicates, lesser sets before greater ones, and groups of rows at
-- last
pub returns : goal.returns
returns c q e child candidate is =
    child_key q e.group (physical_children e.operator) child (children_lesser q e.group e.operator candidate.shape).keys
    is
