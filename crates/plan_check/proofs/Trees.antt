-- The trees that plans are.
use Rattle.std.proofs.Common.{◌≡◌, List, [], ◌∷◌, length, refl, length-append}
use Rattle.std.proofs.Common.{arith}
use Rattle.query_core.specs.Keys.{IsGroup}
use Rattle.query_core.specs.declared.query.Query.{Query}
use Rattle.plan_space.specs.declared.nodes.NodeKind.{NodeKind}
use Rattle.plan_space.specs.declared.nodes.NodeKind.TheVariants as nodes
use Rattle.plan_space.specs.Nodes.{Tree, leaf, over, two}
use Rattle.plan_space.specs.declared.seen.Kid.{Kid}
use Rattle.plan_space.specs.Gives.{first_group, node_group, kid_of}
use Rattle.plan_tree.specs.Spells.{Spells}
use Rattle.plan_tree.specs.declared.plan.Plan.{Plan}
use Rattle.plan_tree.specs.declared.plan.Plan.TheVariants.{Leaf, Over', Two'}
use Rattle.plan_check.specs.Nodes.{IsKindOf}
use Rattle.plan_check.specs.Preorder.{nodes_of, plans_in}
use Rattle.plan_check.specs.Passes.{AreKnown}

-- ---- a tree of nodes of the query

-- without kids there is the first table
no_kids_known : (q : Query) → IsGroup q (first_group [])
no_kids_known q = let some = q.tables_valid.some in omega arith

-- the group of a node over kids of known groups is known
group_known : (q : Query) (kind : NodeKind) (kids : List Kid) → IsKindOf q kind → IsGroup q (first_group kids)
    → IsGroup q (node_group kind kids)
group_known q (nodes.Native e mode) kids is known = is.candidate.known
group_known q (nodes.Enforcer e) kids is known = known

-- a plan of nodes of the query is a tree of a known group
pub tree_known : (q : Query) (plan : Plan) → AreKnown q plan → (tree : Tree) × Spells plan tree
    × IsGroup q (kid_of q tree).group
tree_known q (Leaf node) (kind, is, of) = (leaf kind, is, group_known q kind [] of (no_kids_known q))
tree_known q (Over' node pointer kid) ((kind, is, of), rest) =
    let below = tree_known q kid rest in
    (over kind below.0, (is, below.1), group_known q kind (kid_of q below.0 ∷ []) of below.2)
tree_known q (Two' node pointer left pointer' right) ((kind, is, of), first, second) =
    let x = tree_known q left first in
    let y = tree_known q right second in
    (two kind x.0 y.0, (is, x.1, y.1), group_known q kind (kid_of q x.0 ∷ kid_of q y.0 ∷ []) of x.2)

-- ---- the plans in a tree

-- a plan has as many nodes as its tree has plans
pub as_many : (plan : Plan) (tree : Tree) → Spells plan tree → length (nodes_of plan) ≡ length (plans_in tree)
as_many (Leaf node) (leaf kind) spells = refl
as_many (Leaf node) (over kind kid) spells = absurd spells
as_many (Leaf node) (two kind left right) spells = absurd spells
as_many (Over' node pointer plan) (leaf kind) spells = absurd spells
as_many (Over' node pointer plan) (over kind kid) spells = let below = as_many plan kid spells.1 in omega arith
as_many (Over' node pointer plan) (two kind left right) spells = absurd spells
as_many (Two' node pointer plan pointer' plan') (leaf kind) spells = absurd spells
as_many (Two' node pointer plan pointer' plan') (over kind kid) spells = absurd spells
as_many (Two' node pointer plan pointer' plan') (two kind left right) spells =
    let first = as_many plan left spells.1 in
    let second = as_many plan' right spells.2 in
    let nodes = length-append (nodes_of plan) (nodes_of plan') in
    let plans = length-append (plans_in left) (plans_in right) in
    omega arith
