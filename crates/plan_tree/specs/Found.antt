-- The outcome of the search for the least plan of a query.
use Rattle.std.specs.Prelude.{◌≡◌}
use Rattle.query_core.specs.declared.query.Query.{Query}
use Rattle.plan_space.specs.Nodes.{Tree}
use Rattle.plan_space.specs.Cost.{cost_of}
use Rattle.plan_space.specs.Least.{IsLeastPlan, QueryHasNoPlan}
use Rattle.plan_tree.specs.Spells.{Spells}
use Rattle.plan_tree.specs.declared.plan.Found.{Found}
use Rattle.plan_tree.specs.declared.plan.Found.TheVariants.{Least, NoPlan}

-- the least plan of the query with its cost, or that there is none
abbrev pub IsFound : Query → Found → Type 0
IsFound q (Least plan cost) = (tree : Tree) × Spells plan tree × IsLeastPlan q tree × (cost ≡ cost_of q tree)
IsFound q NoPlan = QueryHasNoPlan q
