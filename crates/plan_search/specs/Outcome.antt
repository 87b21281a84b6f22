-- The outcome of the search for the least plan of a group for a request.
use Rattle.std.specs.Prelude.{◌≡◌}
use Rattle.query_core.specs.declared.query.Query.{Query}
use Rattle.query_core.specs.declared.words.KeyParts.{KeyParts}
use Rattle.xform_rules.specs.Closure.{IsMember}
use Rattle.request_props.specs.declared.request.Request.{Request}
use Rattle.plan_space.specs.Nodes.{Tree}
use Rattle.plan_space.specs.Cost.{cost_of}
use Rattle.plan_space.specs.Least.{IsLeast, HasNoPlan}
use Rattle.plan_tree.specs.Spells.{Spells}
use Rattle.plan_tree.specs.declared.plan.Found.{Found}
use Rattle.plan_tree.specs.declared.plan.Found.TheVariants.{Least, NoPlan}

-- the least plan for the request with its cost, or that there is none
abbrev pub IsFoundFor : Query → KeyParts → Request → Found → Type 0
IsFoundFor q group wanted (Least plan cost) = (tree : Tree) × Spells plan tree
    × IsLeast (IsMember q) q group wanted tree × (cost ≡ cost_of q tree)
IsFoundFor q group wanted NoPlan = HasNoPlan (IsMember q) q group wanted
