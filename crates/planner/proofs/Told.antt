-- What the nodes of a plan tell of it.
use Rattle.std.proofs.Common.{ℕ, suc, ◌≡◌, ◌+◌, List, [], ◌∷◌, ◌++◌, get_or, drop, sym, ap, ◌∙◌, append_assoc}
use Rattle.std.proofs.Common.{append-nil, arith}
use Rattle.std.specs.List.{sum_by}
use Rattle.std.proofs.lemmas.List.Sums.{sum_by-append, sum_by-cons}
use Rattle.query_core.specs.declared.query.Query.{Query}
use Rattle.plan_space.specs.Cost.{cost_of}
use Rattle.plan_space.specs.Gives.{kid_of}
use Rattle.plan_space.specs.Nodes.{Tree, leaf, over, two}
use Rattle.planner.specs.Nodes.{node_at, nodes_from, nodes_of}
use Rattle.planner.specs.declared.node.PlanNode.{PlanNode}

-- the first nodes of two lists, and how many nodes stand below each
same_root : (n m : PlanNode) (xs ys : List PlanNode) → n ∷ xs ≡ m ∷ ys → n ≡ m
same_root n m xs ys same = ap (λ (l : List PlanNode). get_or l 0 n) same

same_count : (n m : PlanNode) (xs ys : List PlanNode) → n ∷ xs ≡ m ∷ ys → n.children ≡ m.children
same_count n m xs ys same = ap (λ (node : PlanNode). node.children) (same_root n m xs ys same)

-- and the nodes behind them
same_rest : (n m : PlanNode) (xs ys : List PlanNode) → n ∷ xs ≡ m ∷ ys → xs ≡ ys
same_rest n m xs ys same = ap (λ (l : List PlanNode). drop 1 l) same

module _ (q : Query) where
  -- two plans, each with others behind its nodes, whose nodes are the same
  one_plan : (a b : Tree) (m n : ℕ) (xs ys : List PlanNode) → nodes_from q m a ++ xs ≡ nodes_from q n b ++ ys
      → (a ≡ b) × (xs ≡ ys)
  one_plan (leaf kind) (leaf kind') m n xs ys same =
      (ap (λ (node : PlanNode). leaf node.operator) (same_root _ _ xs ys same), same_rest _ _ xs ys same)
  one_plan (leaf kind) (over kind' kid) m n xs ys same =
      absurd (let counts : 0 ≡ 1 = same_count _ _ _ _ same in omega arith)
  one_plan (leaf kind) (two kind' left right) m n xs ys same =
      absurd (let counts : 0 ≡ 2 = same_count _ _ _ _ same in omega arith)
  one_plan (over kind kid) (leaf kind') m n xs ys same =
      absurd (let counts : 1 ≡ 0 = same_count _ _ _ _ same in omega arith)
  one_plan (over kind kid) (over kind' kid') m n xs ys same =
      let below = one_plan kid kid' (suc m) (suc n) xs ys (same_rest _ _ _ _ same) in
      (ap (λ (node : PlanNode). over node.operator kid) (same_root _ _ _ _ same) ∙ ap (over kind') below.0, below.1)
  one_plan (over kind kid) (two kind' left right) m n xs ys same =
      absurd (let counts : 1 ≡ 2 = same_count _ _ _ _ same in omega arith)
  one_plan (two kind left right) (leaf kind') m n xs ys same =
      absurd (let counts : 2 ≡ 0 = same_count _ _ _ _ same in omega arith)
  one_plan (two kind left right) (over kind' kid) m n xs ys same =
      absurd (let counts : 2 ≡ 1 = same_count _ _ _ _ same in omega arith)
  one_plan (two kind left right) (two kind' left' right') m n xs ys same =
      let first : List PlanNode = nodes_from q (suc m) right in
      let second : List PlanNode = nodes_from q (suc n) right' in
      let lefts = one_plan left left' (suc m) (suc n) (first ++ xs) (second ++ ys)
      (sym (append_assoc (nodes_from q (suc m) left) first xs) ∙ same_rest _ _ _ _ same
      ∙ append_assoc (nodes_from q (suc n) left') second ys) in
      let rights = one_plan right right' (suc m) (suc n) xs ys lefts.1 in (
        ap (λ (node : PlanNode). two node.operator left right) (same_root _ _ _ _ same)
            ∙ ap (λ (t : Tree). two kind' t right) lefts.0 ∙ ap (two kind' left') rights.0,
        rights.1,
      )

  -- two plans with the same nodes
  pub told_plan : (a b : Tree) → nodes_of q a ≡ nodes_of q b → a ≡ b
  told_plan a b same =
      (one_plan a b 0 0 [] [] (append-nil (nodes_of q a) ∙ same ∙ sym (append-nil (nodes_of q b)))).0

  -- the sum of the costs of the nodes, at whatever depth the root stands
  costs_from : (tree : Tree) (depth : ℕ) → sum_by (λ node. node.cost) (nodes_from q depth tree) ≡ cost_of q tree
  costs_from (leaf kind) depth =
      let own = node_at q depth kind [] in
      let all : sum_by (λ node. node.cost) (own ∷ []) ≡ own.cost + 0 = sum_by-cons (λ node. node.cost) own [] in
      omega arith
  costs_from (over kind kid) depth =
      sum_by-cons (λ node. node.cost) (node_at q depth kind (kid_of q kid ∷ [])) (nodes_from q (suc depth) kid)
      ∙ ap (λ n. (node_at q depth kind (kid_of q kid ∷ [])).cost + n) (costs_from kid (suc depth))
  costs_from (two kind left right) depth =
      let own = node_at q depth kind (kid_of q left ∷ kid_of q right ∷ []) in
      let lefts : List PlanNode = nodes_from q (suc depth) left in
      let rights : List PlanNode = nodes_from q (suc depth) right in
      let all = sum_by-cons (λ node. node.cost) own (lefts ++ rights) in
      let both = sum_by-append (λ node. node.cost) lefts rights in
      let first = costs_from left (suc depth) in
      let second = costs_from right (suc depth) in
      omega arith

  pub costs_of : (tree : Tree) → sum_by (λ node. node.cost) (nodes_of q tree) ≡ cost_of q tree
  costs_of tree = costs_from tree 0
