-- What is found out of a plan, by its root and the plans below that.
use Rattle.std.proofs.Common.{Box, Global, ◌≡◌, ◌+◌, ◌↔◌, IsTrue, List, [], ◌∷◌, ◌++◌, refl, sym, ap, subst, ◌∙◌}
use Rattle.std.proofs.Common.{false, None, Some, length-append, arith}
use Rattle.std.proofs.lemmas.List.Elements.{All-nil, All-cons}
use Rattle.cost_units.specs.Cost.{local_cost}
use Rattle.query_core.specs.Expressions.{IsCandidate}
use Rattle.query_core.specs.Keys.{IsGroup}
use Rattle.query_core.specs.declared.query.Query.{Query}
use Rattle.plan_space.specs.Cost.{shape_of}
use Rattle.plan_space.specs.Gives.{kid_under, kid_of}
use Rattle.plan_space.specs.Nodes.{Tree, leaf, over, two}
use Rattle.plan_space.specs.Valid.{NodeFits}
use Rattle.plan_space.specs.declared.nodes.NodeKind.{NodeKind}
use Rattle.plan_space.specs.declared.seen.Kid.{Kid}
use Rattle.plan_tree.specs.Nodes.{IsNode}
use Rattle.plan_tree.specs.Seen.{kids_seen, root_node, HaveGroups}
use Rattle.plan_tree.specs.Spells.{Spells}
use Rattle.plan_tree.specs.declared.node.Node.{Node}
use Rattle.plan_tree.specs.declared.plan.Plan.{Plan}
use Rattle.plan_tree.specs.declared.plan.Plan.TheVariants.{Leaf, Over', Two'}
use Rattle.plan_tree.specs.declared.seen.Kids.{Kids}
use Rattle.plan_tree.specs.declared.seen.Kids.TheVariants as below
use Rattle.plan_check.specs.Kids.{HasKids, RootHasKids, RootFits, kids_of}
use Rattle.plan_check.specs.Nodes.{IsKindOf, IsNodeOf}
use Rattle.plan_check.specs.Passes.{IsFirst, IsLast, both_of, AreNodes, ArePlans, IsKindWalk, IsNodeWalk, AreKnown}
use Rattle.plan_check.specs.Passes.{IsTreeWalk, IsWalk}
use Rattle.plan_check.specs.Preorder.{nodes_of, plans_in}
use Rattle.plan_check.specs.declared.findings.Findings.{Findings}
use Rattle.plan_check.specs.declared.walk.Walked.{Walked}
use Rattle.plan_check.proofs.FirstAndLast.{first_alone, last_alone, first_joined, last_joined}
use Rattle.plan_check.proofs.OneTree.{NodesAreOne}
use Rattle.plan_check.proofs.Trees.{tree_known}

-- where a plan below a node is kept, which says nothing of the plan
abbrev pub Pointer : Type 0
Pointer = Box (Unit {0}) Global

-- the root of a plan, over plans of which this was found out
abbrev pub root_over : Walked → Findings → Walked
root_over own below = record { kid = own.kid; findings = both_of own.findings below }

module _ (q : Query) where
  -- ---- some nodes and those behind them

  nodes_joined : (xs ys : List Node) (front behind : Findings) → AreNodes q xs front → AreNodes q ys behind
      → AreNodes q (xs ++ ys) (both_of front behind)
  nodes_joined xs ys front behind first second = record {
    count = let long = length-append xs ys in omega (arith, first.count, second.count);
    first = first_joined (IsNodeOf q) xs ys front.unknown front.nodes behind.unknown first.count first.first
        second.first;
  }

  plans_joined : (xs ys : List Tree) (front behind : Findings) → ArePlans q xs front → ArePlans q ys behind
      → ArePlans q (xs ++ ys) (both_of front behind)
  plans_joined xs ys front behind first second = record {
    count = let long = length-append xs ys in omega (arith, first.count, second.count);
    last = last_joined (RootHasKids q) xs ys front.wrong front.nodes behind.wrong first.count first.last second.last;
    first = first_joined (RootFits q) xs ys front.unfit front.nodes behind.unfit first.count first.first second.first;
  }

  -- ---- a number

  -- that of a node of the query
  pub known_node : (node : Node) (kind : NodeKind) (seen : Kids) (own : Walked) → NodesAreOne → IsNode node kind
      → IsKindOf q kind → own.findings.nodes ≡ 1 → own.findings.unknown ≡ None → IsKindWalk q kind seen own
      → IsNodeWalk q node seen own
  known_node node kind seen own one is of_query count known walk = record {
    nodes = record {
      count = count;
      first = subst (λ place. IsFirst (IsNodeOf q) (node ∷ []) place) (sym known)
          (All-cons (IsNodeOf q) node [] (kind, is, of_query) (All-nil (IsNodeOf q)));
    };
    kind = λ other_known other also.
        subst (λ (k : NodeKind). IsKindWalk q k seen own)
        (one kind other is.in_range also.in_range (sym is.number ∙ also.number)) walk;
  }

  -- that of none
  pub unknown_node : (node : Node) (seen : Kids) (own : Walked) → own.findings.nodes ≡ 1
      → own.findings.unknown ≡ Some 0 → (IsNodeOf q node → ⊥) → IsNodeWalk q node seen own
  unknown_node node seen own count place unknown = record {
    nodes = record {
      count = count;
      first = subst (λ p. IsFirst (IsNodeOf q) (node ∷ []) p) (sym place)
          (first_alone (IsNodeOf q) node false (λ never. absurd cc, λ is. absurd (unknown is)));
    };
    kind = λ is kind also. absurd (unknown is);
  }

  -- ---- the root of a tree

  -- a tree whose root was looked at over these plans
  pub record IsRootWalk (tree : Tree) (own : Walked) : Type 0 where
    pub kid : own.kid ≡ kid_under q (root_node tree) (kids_of q tree)
    pub cost : own.findings.cost ≡ local_cost (shape_of q (root_node tree) (kids_of q tree))
    pub plans : ArePlans q (tree ∷ []) own.findings

  root_plans : (tree : Tree) (seen : Kids) (own : Walked) → own.findings.nodes ≡ 1 → kids_seen seen ≡ kids_of q tree
      → IsKindWalk q (root_node tree) seen own → ArePlans q (tree ∷ []) own.findings
  root_plans tree seen own one sees walk = record {
    count = one;
    last = subst (λ place. IsLast (RootHasKids q) (tree ∷ []) place) (sym walk.wrong)
        (last_alone (RootHasKids q) tree walk.has_kids
        (subst (λ (kids : List Kid). IsTrue walk.has_kids ↔ HasKids (root_node tree) kids) sees walk.tells_kids));
    first = subst (λ place. IsFirst (RootFits q) (tree ∷ []) place) (sym walk.unfit)
        (first_alone (RootFits q) tree walk.fits
        (subst (λ (kids : List Kid). IsTrue walk.fits ↔ NodeFits (IsCandidate q) q (root_node tree) kids) sees
        walk.tells_fits));
  }

  root_walk : (tree : Tree) (seen : Kids) (own : Walked) → own.findings.nodes ≡ 1 → kids_seen seen ≡ kids_of q tree
      → HaveGroups q seen → IsKindWalk q (root_node tree) seen own → IsRootWalk tree own
  root_walk tree seen own one sees groups walk = record {
    kid = walk.kid ∙ ap (kid_under q (root_node tree)) sees;
    cost = walk.cost groups ∙ ap (λ kids. local_cost (shape_of q (root_node tree) kids)) sees;
    plans = root_plans tree seen own one sees walk;
  }

  -- ---- a plan of nodes of the query

  -- the group of what is seen of it is one of the query's
  group_seen : (plan : Plan) (walked : Walked) → AreKnown q plan → IsWalk q plan walked → IsGroup q walked.kid.group
  group_seen plan walked known walk =
      let tree = tree_known q plan known in
      subst (λ (kid : Kid). IsGroup q kid.group) (sym (walk.tree known tree.0 tree.1).kid) tree.2

  leaf_tree : (node : Node) (own : Walked) → IsNodeWalk q node below.Nothing own → IsNodeOf q node → (tree : Tree)
      → Spells (Leaf node) tree → IsTreeWalk q tree own
  leaf_tree node own walk known (leaf kind) spells =
      let root = root_walk (leaf kind) below.Nothing own walk.nodes.count refl tt (walk.kind known kind spells) in
      record { kid = root.kid; cost = root.cost; plans = root.plans }
  leaf_tree node own walk known (over kind kid) spells = absurd spells
  leaf_tree node own walk known (two kind left right) spells = absurd spells

  over_tree : (node : Node) (pointer : Pointer) (kid : Plan) (own only : Walked)
      → IsNodeWalk q node (below.One only.kid) own → IsWalk q kid only → AreKnown q (Over' node pointer kid)
      → (tree : Tree) → Spells (Over' node pointer kid) tree
      → IsTreeWalk q tree (root_over own only.findings)
  over_tree node pointer kid own only walk under known (leaf kind) spells = absurd spells
  over_tree node pointer kid own only walk under known (over kind tree) spells =
      let only_tree = under.tree known.1 tree spells.1 in
      let root = root_walk (over kind tree) (below.One only.kid) own walk.nodes.count
      (ap (λ (k : Kid). k ∷ []) only_tree.kid) (group_seen kid only known.1 under) (walk.kind known.0 kind spells.0) in
      record {
        kid = root.kid;
        cost = ap (λ c. c + only.findings.cost) root.cost
            ∙ ap (λ c. local_cost (shape_of q kind (kid_of q tree ∷ [])) + c) only_tree.cost;
        plans = plans_joined (over kind tree ∷ []) (plans_in tree) own.findings only.findings root.plans
            only_tree.plans;
      }
  over_tree node pointer kid own only walk under known (two kind left right) spells = absurd spells

  two_tree : (node : Node) (pointer : Pointer) (left : Plan) (pointer' : Pointer) (right : Plan)
      (own first second : Walked) → IsNodeWalk q node (below.Two first.kid second.kid) own → IsWalk q left first
      → IsWalk q right second → AreKnown q (Two' node pointer left pointer' right) → (tree : Tree)
      → Spells (Two' node pointer left pointer' right) tree
      → IsTreeWalk q tree
      (root_over own (both_of first.findings second.findings))
  two_tree node pointer left pointer' right own first second walk under beside known (leaf kind) spells = absurd spells
  two_tree node pointer left pointer' right own first second walk under beside known (over kind kid) spells =
      absurd spells
  two_tree node pointer left pointer' right own first second walk under beside known (two kind s t) spells =
      let first_tree = under.tree known.1 s spells.1 in
      let second_tree = beside.tree known.2 t spells.2 in
      let sees : first.kid ∷ second.kid ∷ [] ≡ kid_of q s ∷ kid_of q t ∷ [] =
      ap (λ (k : Kid). k ∷ second.kid ∷ []) first_tree.kid ∙ ap (λ (k : Kid). kid_of q s ∷ k ∷ []) second_tree.kid in
      let root = root_walk (two kind s t) (below.Two first.kid second.kid) own walk.nodes.count sees
      (group_seen left first known.1 under, group_seen right second known.2 beside)
      (walk.kind known.0 kind spells.0) in
      record {
        kid = root.kid;
        cost = omega (arith, root.cost, first_tree.cost, second_tree.cost);
        plans = plans_joined (two kind s t ∷ []) (plans_in s ++ plans_in t) own.findings
            (both_of first.findings second.findings) root.plans
            (plans_joined (plans_in s) (plans_in t) first.findings second.findings first_tree.plans second_tree.plans);
      }

  -- ---- any plan

  pub leaf_walk : (plan : Plan) (node : Node) (own : Walked) → plan ≡ Leaf node → IsNodeWalk q node below.Nothing own
      → IsWalk q plan own
  leaf_walk plan node own of walk = subst (λ (p : Plan). IsWalk q p own) (sym of)
      (record { nodes = walk.nodes; tree = leaf_tree node own walk })

  pub over_walk : (plan : Plan) (node : Node) (pointer : Pointer) (kid : Plan) (own only : Walked)
      → plan ≡ Over' node pointer kid → IsNodeWalk q node (below.One only.kid) own → IsWalk q kid only
      → IsWalk q plan (root_over own only.findings)
  over_walk plan node pointer kid own only of walk under =
      subst (λ (p : Plan). IsWalk q p (root_over own only.findings)) (sym of)
      (record {
        nodes = nodes_joined (node ∷ []) (nodes_of kid) own.findings only.findings walk.nodes under.nodes;
        tree = over_tree node pointer kid own only walk under;
      })

  pub two_walk : (plan : Plan) (node : Node) (pointer : Pointer) (left : Plan) (pointer' : Pointer) (right : Plan)
      (own first second : Walked) → plan ≡ Two' node pointer left pointer' right
      → IsNodeWalk q node (below.Two first.kid second.kid) own → IsWalk q left first → IsWalk q right second
      → IsWalk q plan (root_over own (both_of first.findings second.findings))
  two_walk plan node pointer left pointer' right own first second of walk under beside =
      subst (λ (p : Plan). IsWalk q p
      (root_over own (both_of first.findings second.findings))) (sym of)
      (record {
        nodes = nodes_joined (node ∷ []) (nodes_of left ++ nodes_of right) own.findings
            (both_of first.findings second.findings) walk.nodes
            (nodes_joined (nodes_of left) (nodes_of right) first.findings second.findings under.nodes beside.nodes);
        tree = two_tree node pointer left pointer' right own first second walk under beside;
      })
