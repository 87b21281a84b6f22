-- A plan whose nodes are all nodes of the query is known part by part, and is one tree.
use Rattle.std.proofs.Common.{◌≡◌, [], ◌++◌, sym, ap, ◌∙◌}
use Rattle.std.specs.List.{All}
use Rattle.std.proofs.lemmas.List.Elements.{All-head, All-tail}
use Rattle.query_core.specs.declared.query.Query.{Query}
use Rattle.plan_space.specs.declared.nodes.NodeKind.{NodeKind}
use Rattle.plan_space.specs.Nodes.{Tree, leaf, over, two, node_number}
use Rattle.plan_tree.specs.Nodes.{IsNodeInRange}
use Rattle.plan_tree.specs.Spells.{Spells}
use Rattle.plan_tree.specs.declared.plan.Plan.{Plan}
use Rattle.plan_tree.specs.declared.plan.Plan.TheVariants.{Leaf, Over', Two'}
use Rattle.plan_check.specs.Preorder.{nodes_of}
use Rattle.plan_check.specs.Nodes.{IsNodeOf}
use Rattle.plan_check.specs.Passes.{AreKnown}
use Rattle.plan_check.proofs.Lists.{all_left, all_right}

-- what holds of each node in the list holds of each in the plan
pub known_all : (q : Query) (plan : Plan) → All (IsNodeOf q) (nodes_of plan) → AreKnown q plan
known_all q (Leaf node) all = All-head (IsNodeOf q) node [] all
known_all q (Over' node pointer kid) all =
    (All-head (IsNodeOf q) node (nodes_of kid) all, known_all q kid (All-tail (IsNodeOf q) node (nodes_of kid) all))
known_all q (Two' node pointer left pointer' right) all =
    let below = All-tail (IsNodeOf q) node (nodes_of left ++ nodes_of right) all in (
      All-head (IsNodeOf q) node (nodes_of left ++ nodes_of right) all,
      known_all q left (all_left (IsNodeOf q) (nodes_of left) (nodes_of right) below),
      known_all q right (all_right (IsNodeOf q) (nodes_of left) (nodes_of right) below),
    )

-- no two nodes in range have one number
abbrev pub NodesAreOne : Type 0
NodesAreOne = (k l : NodeKind) → IsNodeInRange k → IsNodeInRange l → node_number k ≡ node_number l → k ≡ l

-- a plan is one tree
pub one_tree : NodesAreOne → (plan : Plan) (tree other : Tree) → Spells plan tree → Spells plan other → tree ≡ other
one_tree one (Leaf node) (leaf k) (leaf l) x y = ap leaf (one k l x.in_range y.in_range (sym x.number ∙ y.number))
one_tree one (Leaf node) (leaf k) (over l kid) x y = absurd y
one_tree one (Leaf node) (leaf k) (two l left right) x y = absurd y
one_tree one (Leaf node) (over k kid) other x y = absurd x
one_tree one (Leaf node) (two k left right) other x y = absurd x
one_tree one (Over' node pointer plan) (leaf k) other x y = absurd x
one_tree one (Over' node pointer plan) (over k kid) (leaf l) x y = absurd y
one_tree one (Over' node pointer plan) (over k kid) (over l second) x y =
    let same = one k l x.0.in_range y.0.in_range (sym x.0.number ∙ y.0.number) in
    let below = one_tree one plan kid second x.1 y.1 in
    cc
one_tree one (Over' node pointer plan) (over k kid) (two l left right) x y = absurd y
one_tree one (Over' node pointer plan) (two k left right) other x y = absurd x
one_tree one (Two' node pointer plan pointer' plan') (leaf k) other x y = absurd x
one_tree one (Two' node pointer plan pointer' plan') (over k kid) other x y = absurd x
one_tree one (Two' node pointer plan pointer' plan') (two k left right) (leaf l) x y = absurd y
one_tree one (Two' node pointer plan pointer' plan') (two k left right) (over l kid) x y = absurd y
one_tree one (Two' node pointer plan pointer' plan') (two k left right) (two l first second) x y =
    let same = one k l x.0.in_range y.0.in_range (sym x.0.number ∙ y.0.number) in
    let below = one_tree one plan left first x.1 y.1 in
    let beside = one_tree one plan' right second x.2 y.2 in
    cc
