-- The nodes of a plan and the plans in it, in preorder: each before those below it, and those on the left before those
-- on the right.
use Rattle.std.specs.Prelude.{List, [], ◌∷◌, ◌++◌}
use Rattle.plan_space.specs.Nodes.{Tree, leaf, over, two}
use Rattle.plan_tree.specs.declared.node.Node.{Node}
use Rattle.plan_tree.specs.declared.plan.Plan.{Plan}
use Rattle.plan_tree.specs.declared.plan.Plan.TheVariants.{Leaf, Over', Two'}

-- the nodes of a plan
abbrev pub nodes_of : Plan → List Node
nodes_of (Leaf node) = node ∷ []
nodes_of (Over' node pointer kid) = node ∷ nodes_of kid
nodes_of (Two' node pointer left pointer' right) = node ∷ (nodes_of left ++ nodes_of right)

-- the plan and all plans below it, in the order of their roots
abbrev pub plans_in : Tree → List Tree
plans_in (leaf node) = leaf node ∷ []
plans_in (over node kid) = over node kid ∷ plans_in kid
plans_in (two node left right) = two node left right ∷ (plans_in left ++ plans_in right)
