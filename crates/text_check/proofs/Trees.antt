-- A plan by the plans below its root.
use Rattle.std.proofs.Common.{◌≡◌, ℕ, suc, ◌≤◌, List, [], ◌∷◌, ◌++◌, map, length, refl, sym, ap, ◌∙◌, subst, arith}
use Rattle.std.proofs.lemmas.List.{append-nil}
use Rattle.query_core.specs.Keys.{IsGroup, IsGroupInRange}
use Rattle.query_core.specs.declared.query.Query.{Query}
use Rattle.query_core.specs.declared.words.KeyParts.{KeyParts}
use Rattle.plan_space.specs.Gives.{node_group, kid_of, kid_under}
use Rattle.plan_space.specs.Nodes.{Tree, leaf, over, two}
use Rattle.plan_space.specs.declared.nodes.NodeKind.{NodeKind}
use Rattle.plan_space.specs.declared.nodes.NodeKind.TheVariants as nodes
use Rattle.plan_space.specs.declared.seen.Kid.{Kid}
use Rattle.plan_tree.specs.Seen.{root_node}
use Rattle.plan_check.specs.Kids.{HasKids}
use Rattle.plan_check.specs.Nodes.{IsKindOf}
use Rattle.plan_reading.specs.Named.{named_of}
use Rattle.plan_reading.specs.NodeOver.{node_over}
use Rattle.plan_reading.specs.Laws.{NodesAreMeant}
use Rattle.plan_reading.specs.Outline.{outline, forest, IsPlanTree, ArePlanTrees}
use Rattle.plan_reading.specs.declared.line.NodeLine.{NodeLine}
use Rattle.text_check.specs.Grown.{subtrees, StandsOver, MayStand, tree_over, HaveRanges}

-- what is seen of plans
abbrev pub kids_at : Query → List Tree → List Kid
kids_at q trees = map (kid_of q) trees

pub outline_parts : (depth : ℕ) (t : Tree)
    → outline depth t ≡ (depth, named_of (root_node t)) ∷ forest (suc depth) (subtrees t)
outline_parts depth (leaf node) = refl
outline_parts depth (over node kid) =
    ap (λ lines. (depth, named_of node) ∷ lines) (sym (append-nil (outline (suc depth) kid)))
outline_parts depth (two node left right) =
    ap (λ lines. (depth, named_of node) ∷ (outline (suc depth) left ++ lines)) (sym (append-nil (outline (suc depth) right)))

pub below_are : (q : Query) (t : Tree) → IsPlanTree q t → ArePlanTrees q (subtrees t)
below_are q (leaf node) is = tt
below_are q (over node kid) is = (is.0, tt)
below_are q (two node left right) is = (is.0, (is.1, tt))

pub root_kind : (q : Query) (t : Tree) → IsPlanTree q t → IsKindOf q (root_node t)
root_kind q (leaf node) is = is.0
root_kind q (over node kid) is = is.1
root_kind q (two node left right) is = is.2

pub root_kids : (q : Query) (t : Tree) → IsPlanTree q t → HasKids (root_node t) (kids_at q (subtrees t))
root_kids q (leaf node) is = is.1
root_kids q (over node kid) is = is.2
root_kids q (two node left right) is = is.3

pub kid_by_root : (q : Query) (t : Tree) → kid_of q t ≡ kid_under q (root_node t) (kids_at q (subtrees t))
kid_by_root q (leaf node) = refl
kid_by_root q (over node kid) = refl
kid_by_root q (two node left right) = refl

-- at most two plans are below a root
pub few_below : (t : Tree) → length (subtrees t) ≤ 2
few_below (leaf node) = omega arith
few_below (over node kid) = omega arith
few_below (two node left right) = omega arith

-- ---- groups

node_known : (q : Query) (node : NodeKind) (kid : Kid) (others : List Kid) → IsKindOf q node → IsGroup q kid.group
    → IsGroup q (node_group node (kid ∷ others))
node_known q (nodes.Native e mode) kid others is known = is.candidate.known
node_known q (nodes.Enforcer e) kid others is known = known

leaf_known : (q : Query) (node : NodeKind) → IsKindOf q node → HasKids node [] → IsGroup q (node_group node [])
leaf_known q (nodes.Native e mode) is kids = is.candidate.known
leaf_known q (nodes.Enforcer e) is kids = absurd kids

pub tree_known : (q : Query) (t : Tree) → IsPlanTree q t → IsGroup q (kid_of q t).group
tree_known q (leaf node) is = leaf_known q node is.0 is.1
tree_known q (over node kid) is = node_known q node (kid_of q kid) [] is.1 (tree_known q kid is.0)
tree_known q (two node left right) is =
    node_known q node (kid_of q left) (kid_of q right ∷ []) is.2 (tree_known q left is.0)

-- the groups of plans are in range
pub trees_range : (q : Query) → ((g : KeyParts) → IsGroup q g → IsGroupInRange g) → (ts : List Tree) → ArePlanTrees q ts
    → HaveRanges (kids_at q ts)
trees_range q range [] are = tt
trees_range q range (t ∷ ts) are = (range (kid_of q t).group (tree_known q t are.0), trees_range q range ts are.1)

-- ---- a line's node over plans

module _ (q : Query) (meant : NodesAreMeant q) where
  -- its node is the one that may be meant
  pub stands_node : (line : NodeLine) (below : List Tree) (t : Tree) → StandsOver q line below t
      → root_node t ≡ node_over line.node (kids_at q below)
  stands_node line below t is =
      meant (root_node t) (kids_at q (subtrees t)) (root_kind q t is.is_tree) (root_kids q t is.is_tree)
      ∙ ap (λ n. node_over n (kids_at q (subtrees t))) is.named
      ∙ ap (λ ts. node_over line.node (kids_at q ts)) is.over

  -- and that one may stand there
  pub may_stand : (line : NodeLine) (below : List Tree) (t : Tree) → StandsOver q line below t
      → MayStand q line.level (node_over line.node (kids_at q below)) (kids_at q below)
  may_stand line below t is =
      let node = stands_node line below t is in
      let own : HasKids (root_node t) (kids_at q below) =
      subst (λ ts. HasKids (root_node t) (kids_at q ts)) is.over (root_kids q t is.is_tree) in
      let group : (kid_of q t).group ≡ node_group (node_over line.node (kids_at q below)) (kids_at q below) =
      ap (λ (k : Kid). k.group) (kid_by_root q t) ∙ ap (λ ts. node_group (root_node t) (kids_at q ts)) is.over
      ∙ ap (λ n. node_group n (kids_at q below)) node in
      record {
        kind = subst (IsKindOf q) node (root_kind q t is.is_tree);
        has_kids = subst (λ n. HasKids n (kids_at q below)) node own;
        of_root = λ zero. sym group ∙ is.of_root zero;
      }

-- one that may stand there, and is named so, makes a plan over at most two
pub stands_over : (q : Query) (line : NodeLine) (node : NodeKind) (below : List Tree) → length below ≤ 2
    → ArePlanTrees q below → named_of node ≡ line.node → MayStand q line.level node (kids_at q below)
    → StandsOver q line below (tree_over node below)
stands_over q line node [] few are named may =
    record { is_tree = (may.kind, may.has_kids); over = refl; named = named; of_root = may.of_root }
stands_over q line node (kid ∷ []) few are named may =
    record { is_tree = (are.0, may.kind, may.has_kids); over = refl; named = named; of_root = may.of_root }
stands_over q line node (left ∷ right ∷ []) few are named may =
    record { is_tree = (are.0, are.1.0, may.kind, may.has_kids); over = refl; named = named; of_root = may.of_root }
stands_over q line node (left ∷ right ∷ third ∷ others) few are named may = absurd (omega (arith, few))

-- a plan over two at most is seen as its root over what is seen of these
pub kid_of_tree_over : (q : Query) (node : NodeKind) (below : List Tree) → length below ≤ 2
    → kid_of q (tree_over node below) ≡ kid_under q node (kids_at q below)
kid_of_tree_over q node [] few = refl
kid_of_tree_over q node (kid ∷ []) few = refl
kid_of_tree_over q node (left ∷ right ∷ []) few = refl
kid_of_tree_over q node (left ∷ right ∷ third ∷ others) few = absurd (omega (arith, few))
