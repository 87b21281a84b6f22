-- What is gathered of a plan: its root's own behind what the plans below have.
use Rattle.std.proofs.Common.{Box, Global, ◌≡◌, List, [], ◌∷◌, ◌++◌, sym, ap, subst, ◌∙◌, append_assoc, reverse}
use Rattle.std.proofs.lemmas.List.{reverse-append}
use Rattle.query_core.specs.Keys.{IsGroup}
use Rattle.query_core.specs.declared.query.Query.{Query}
use Rattle.plan_space.specs.Gives.{kid_of, kid_under}
use Rattle.plan_space.specs.Nodes.{Tree, leaf, over, two}
use Rattle.plan_space.specs.declared.nodes.NodeKind.{NodeKind}
use Rattle.plan_space.specs.declared.seen.Kid.{Kid}
use Rattle.plan_tree.specs.Nodes.{IsNode}
use Rattle.plan_tree.specs.Seen.{kids_seen, HasGroup, HaveGroups}
use Rattle.plan_tree.specs.Spells.{Spells}
use Rattle.plan_tree.specs.declared.node.Node.{Node}
use Rattle.plan_tree.specs.declared.plan.Plan.{Plan}
use Rattle.plan_tree.specs.declared.plan.Plan.TheVariants.{Leaf, Over', Two'}
use Rattle.plan_tree.specs.declared.seen.Kids.{Kids}
use Rattle.plan_tree.specs.declared.seen.Kids.TheVariants as below
use Rattle.plan_lines.specs.Gathered.{AddsNode, AddsPlan, IsKidOf, IsKidUnder}
use Rattle.plan_lines.specs.Groups.{HasGroups}
use Rattle.plan_lines.proofs.Groups.{plan_group}

-- where a plan below a node is kept, which says nothing of the plan
abbrev pub Pointer : Type 0
Pointer = Box (Unit {0}) Global

-- ---- what is seen of a plan

module _ (q : Query) where
  -- its group is one of the query's
  kid_group : (plan : Plan) (kid : Kid) (tree : Tree) → IsKidOf q plan kid → Spells plan tree → HasGroups q tree
      → IsGroup q kid.group
  kid_group plan kid tree is spells has =
      subst (λ (k : Kid). IsGroup q k.group) (sym (is tree spells)) (plan_group q tree has)

  leaf_tree : (node : Node) (kid : Kid) → IsKidUnder q node below.Nothing kid → IsKidOf q (Leaf node) kid
  leaf_tree node kid under (leaf kind) spells = under kind spells
  leaf_tree node kid under (over kind tree) spells = absurd spells
  leaf_tree node kid under (two kind left right) spells = absurd spells

  over_tree : (node : Node) (pointer : Pointer) (only : Plan) (one kid : Kid) → IsKidOf q only one
      → IsKidUnder q node (below.One one) kid → IsKidOf q (Over' node pointer only) kid
  over_tree node pointer only one kid is under (leaf kind) spells = absurd spells
  over_tree node pointer only one kid is under (over kind tree) spells =
      under kind spells.0 ∙ ap (λ (k : Kid). kid_under q kind (k ∷ [])) (is tree spells.1)
  over_tree node pointer only one kid is under (two kind left right) spells = absurd spells

  two_tree : (node : Node) (pointer : Pointer) (left : Plan) (pointer' : Pointer) (right : Plan) (first second kid : Kid)
      → IsKidOf q left first → IsKidOf q right second → IsKidUnder q node (below.Two first second) kid
      → IsKidOf q (Two' node pointer left pointer' right) kid
  two_tree node pointer left pointer' right first second kid is are under (leaf kind) spells = absurd spells
  two_tree node pointer left pointer' right first second kid is are under (over kind tree) spells = absurd spells
  two_tree node pointer left pointer' right first second kid is are under (two kind s t) spells =
      under kind spells.0 ∙ ap (λ (k : Kid). kid_under q kind (k ∷ second ∷ [])) (is s spells.1)
      ∙ ap (λ (k : Kid). kid_under q kind (kid_of q s ∷ k ∷ [])) (are t spells.2)

-- ---- what its nodes have

-- all of a plan is its root's own before all of the plans below
pub record IsPreorder {A : Type 0} (q : Query) (own : NodeKind → List Kid → List A) (all deeper : Tree → List A) : Type 0
  where
    pub of_leaf : (kind : NodeKind) → all (leaf kind) ≡ own kind []
    pub of_over : (kind : NodeKind) (kid : Tree) → all (over kind kid) ≡ own kind (kid_of q kid ∷ []) ++ deeper kid
    pub of_two : (kind : NodeKind) (left right : Tree) → all (two kind left right)
        ≡ own kind (kid_of q left ∷ kid_of q right ∷ []) ++ (deeper left ++ deeper right)

module _ {A : Type 0} (q : Query) (own : NodeKind → List Kid → List A) (all deeper : Tree → List A)
    (are : IsPreorder q own all deeper) where
  -- the node's own was added behind the rest, which was added behind the others
  own_behind : (node : Node) (seen : Kids) (kind : NodeKind) (kids : List Kid) (before middle rest after : List A)
      → AddsNode q own node seen middle after → kids_seen seen ≡ kids → IsNode node kind → HasGroup q kind
      → HaveGroups q seen → middle ≡ before ++ reverse rest → after ≡ before ++ reverse (own kind kids ++ rest)
  own_behind node seen kind kids before middle rest after adds sees is group groups behind =
      adds kind is group groups ∙ ap (λ (ks : List Kid). middle ++ reverse (own kind ks)) sees
      ∙ ap (λ (m : List A). m ++ reverse (own kind kids)) behind
      ∙ append_assoc before (reverse rest) (reverse (own kind kids))
      ∙ ap (λ (xs : List A). before ++ xs) (sym (reverse-append (own kind kids) rest))

  leaf_added : (node : Node) (before after : List A) → AddsNode q own node below.Nothing before after
      → AddsPlan q all (Leaf node) before after
  leaf_added node before after adds (leaf kind) spells has =
      adds kind spells has tt ∙ ap (λ (xs : List A). before ++ reverse xs) (sym (are.of_leaf kind))
  leaf_added node before after adds (over kind tree) spells has = absurd spells
  leaf_added node before after adds (two kind left right) spells has = absurd spells

  over_added : (node : Node) (pointer : Pointer) (only : Plan) (one : Kid) (before middle after : List A)
      → IsKidOf q only one → AddsPlan q deeper only before middle → AddsNode q own node (below.One one) middle after
      → AddsPlan q all (Over' node pointer only) before after
  over_added node pointer only one before middle after is first adds (leaf kind) spells has = absurd spells
  over_added node pointer only one before middle after is first adds (over kind tree) spells has =
      own_behind node (below.One one) kind (kid_of q tree ∷ []) before middle (deeper tree) after adds
      (ap (λ (k : Kid). k ∷ []) (is tree spells.1)) spells.0 has.0 (kid_group q only one tree is spells.1 has.1)
      (first tree spells.1 has.1)
      ∙ ap (λ (xs : List A). before ++ reverse xs) (sym (are.of_over kind tree))
  over_added node pointer only one before middle after is first adds (two kind left right) spells has = absurd spells

  two_added : (node : Node) (pointer : Pointer) (left : Plan) (pointer' : Pointer) (right : Plan) (first second : Kid)
      (before halfway middle after : List A) → IsKidOf q left first → IsKidOf q right second
      → AddsPlan q deeper right before halfway → AddsPlan q deeper left halfway middle
      → AddsNode q own node (below.Two first second) middle after
      → AddsPlan q all (Two' node pointer left pointer' right) before after
  two_added node pointer left pointer' right first second before halfway middle after is is' last next adds (leaf kind)
      spells has = absurd spells
  two_added node pointer left pointer' right first second before halfway middle after is is' last next adds
      (over kind tree) spells has = absurd spells
  two_added node pointer left pointer' right first second before halfway middle after is is' last next adds
      (two kind s t) spells has =
      own_behind node (below.Two first second) kind (kid_of q s ∷ kid_of q t ∷ []) before middle (deeper s ++ deeper t)
      after adds
      (ap (λ (k : Kid). k ∷ second ∷ []) (is s spells.1) ∙ ap (λ (k : Kid). kid_of q s ∷ k ∷ []) (is' t spells.2))
      spells.0 has.0 (kid_group q left first s is spells.1 has.1, kid_group q right second t is' spells.2 has.2)
      (next s spells.1 has.1 ∙ ap (λ (m : List A). m ++ reverse (deeper s)) (last t spells.2 has.2)
      ∙ append_assoc before (reverse (deeper t)) (reverse (deeper s))
      ∙ ap (λ (xs : List A). before ++ xs) (sym (reverse-append (deeper s) (deeper t))))
      ∙ ap (λ (xs : List A). before ++ reverse xs) (sym (are.of_two kind s t))

  -- ---- the same of a plan that is such a node

  pub leaf_plan : (plan : Plan) (node : Node) (before after : List A) → plan ≡ Leaf node
      → AddsNode q own node below.Nothing before after → AddsPlan q all plan before after
  leaf_plan plan node before after of adds =
      subst (λ (p : Plan). AddsPlan q all p before after) (sym of) (leaf_added node before after adds)

  pub over_plan : (plan : Plan) (node : Node) (pointer : Pointer) (only : Plan) (one : Kid)
      (before middle after : List A) → plan ≡ Over' node pointer only → IsKidOf q only one
      → AddsPlan q deeper only before middle → AddsNode q own node (below.One one) middle after
      → AddsPlan q all plan before after
  over_plan plan node pointer only one before middle after of is first adds =
      subst (λ (p : Plan). AddsPlan q all p before after) (sym of)
      (over_added node pointer only one before middle after is first adds)

  pub two_plan : (plan : Plan) (node : Node) (pointer : Pointer) (left : Plan) (pointer' : Pointer) (right : Plan)
      (first second : Kid) (before halfway middle after : List A)
      → plan ≡ Two' node pointer left pointer' right → IsKidOf q left first → IsKidOf q right second
      → AddsPlan q deeper right before halfway → AddsPlan q deeper left halfway middle
      → AddsNode q own node (below.Two first second) middle after → AddsPlan q all plan before after
  two_plan plan node pointer left pointer' right first second before halfway middle after of is is' last next adds =
      subst (λ (p : Plan). AddsPlan q all p before after) (sym of)
      (two_added node pointer left pointer' right first second before halfway middle after is is' last next adds)
