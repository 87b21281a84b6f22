-- Which plan tree a plan of the program is.
use Rattle.plan_space.specs.Nodes.{Tree, leaf, over, two}
use Rattle.plan_tree.specs.Nodes.{IsNode}
use Rattle.plan_tree.specs.declared.plan.Plan.{Plan}
use Rattle.plan_tree.specs.declared.plan.Plan.TheVariants.{Leaf, Over', Two'}

-- the same nodes in the same places
abbrev pub Spells : Plan → Tree → Type 0
Spells (Leaf node) (leaf kind) = IsNode node kind
Spells (Leaf node) (over kind kid) = ⊥
Spells (Leaf node) (two kind left right) = ⊥
Spells (Over' node pointer plan) (leaf kind) = ⊥
Spells (Over' node pointer plan) (over kind kid) = IsNode node kind × Spells plan kid
Spells (Over' node pointer plan) (two kind left right) = ⊥
Spells (Two' node pointer plan pointer' plan') (leaf kind) = ⊥
Spells (Two' node pointer plan pointer' plan') (over kind kid) = ⊥
Spells (Two' node pointer plan pointer' plan') (two kind left right) = IsNode node kind × Spells plan left
    × Spells plan' right
