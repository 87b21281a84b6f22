-- The nodes of a plan: what holds of each, and how many they are.
use Rattle.std.proofs.Common.{◌≡◌, ℕ, suc, ◌≤◌, List, [], ◌∷◌, ◌++◌, length, map, refl, sym, ap, ◌∙◌, arith}
use Rattle.std.proofs.Common.{length-append}
use Rattle.std.specs.List.{All}
use Rattle.std.proofs.lemmas.List.{length-map}
use Rattle.std.proofs.lemmas.List.Elements.{All-nil, All-cons, All-append}
use Rattle.query_core.specs.declared.query.Query.{Query}
use Rattle.plan_space.specs.Gives.{kid_of}
use Rattle.plan_space.specs.Nodes.{Tree, leaf, over, two}
use Rattle.plan_tree.specs.Spells.{Spells}
use Rattle.plan_tree.specs.declared.plan.Plan.{Plan}
use Rattle.plan_tree.specs.declared.plan.Plan.TheVariants.{Leaf, Over', Two'}
use Rattle.plan_check.specs.Kids.{RootHasKids}
use Rattle.plan_check.specs.Nodes.{IsNodeOf}
use Rattle.plan_check.specs.Outcome.{most_nodes}
use Rattle.plan_check.specs.Preorder.{nodes_of, plans_in}
use Rattle.plan_reading.specs.Lines.{sketch}
use Rattle.plan_reading.specs.Outline.{outline, IsPlanTree}
use Rattle.plan_reading.specs.declared.line.NodeLine.{NodeLine}
use Rattle.text_check.specs.OwnLines.{own_line, own_lines, IsLineOf}
use Rattle.text_check.specs.declared.own.OwnLine.{OwnLine}

-- ---- how many they are

pub as_many_own : (q : Query) (t : Tree) → length (own_lines q t) ≡ length (plans_in t)
as_many_own q (leaf node) = refl
as_many_own q (over node kid) = ap suc (as_many_own q kid)
as_many_own q (two node left right) =
    let first = as_many_own q left in
    let second = as_many_own q right in
    let own = length-append (own_lines q left) (own_lines q right) in
    let plans = length-append (plans_in left) (plans_in right) in
    omega (arith, first, second, own, plans)

as_many_outlined : (depth : ℕ) (t : Tree) → length (outline depth t) ≡ length (plans_in t)
as_many_outlined depth (leaf node) = refl
as_many_outlined depth (over node kid) = ap suc (as_many_outlined (suc depth) kid)
as_many_outlined depth (two node left right) =
    let first = as_many_outlined (suc depth) left in
    let second = as_many_outlined (suc depth) right in
    let lines = length-append (outline (suc depth) left) (outline (suc depth) right) in
    let plans = length-append (plans_in left) (plans_in right) in
    omega (arith, first, second, lines, plans)

-- as many as lines that spell the plan
pub as_many_spelled : (depth : ℕ) (lines : List NodeLine) (t : Tree) → map sketch lines ≡ outline depth t
    → length lines ≡ length (plans_in t)
as_many_spelled depth lines t spelled = sym (length-map lines sketch) ∙ ap length spelled ∙ as_many_outlined depth t

-- there is a line of the plan's own for each
pub as_many_lines : (q : Query) (lines : List NodeLine) (t : Tree) (own : List OwnLine) → map sketch lines ≡ outline 0 t
    → own ≡ own_lines q t → length lines ≡ length own
as_many_lines q lines t own spelled is = as_many_spelled 0 lines t spelled ∙ sym (as_many_own q t) ∙ sym (ap length is)

-- so they are few where the lines are
pub own_few : (q : Query) (lines : List NodeLine) (t : Tree) (own : List OwnLine) → map sketch lines ≡ outline 0 t
    → own ≡ own_lines q t → length lines ≤ most_nodes → length own ≤ most_nodes
own_few q lines t own spelled is few = let long = as_many_lines q lines t own spelled is in omega (arith, long, few)

-- ---- nodes of the query

module _ (q : Query) where
  -- the program's nodes
  pub nodes_known : (plan : Plan) (t : Tree) → Spells plan t → IsPlanTree q t → All (IsNodeOf q) (nodes_of plan)
  nodes_known (Leaf node) (leaf kind) spells is =
      All-cons (IsNodeOf q) node [] (kind, spells, is.0) (All-nil (IsNodeOf q))
  nodes_known (Leaf node) (over kind kid) spells is = absurd spells
  nodes_known (Leaf node) (two kind left right) spells is = absurd spells
  nodes_known (Over' node pointer plan) (leaf kind) spells is = absurd spells
  nodes_known (Over' node pointer plan) (over kind kid) spells is =
      All-cons (IsNodeOf q) node (nodes_of plan) (kind, spells.0, is.1) (nodes_known plan kid spells.1 is.0)
  nodes_known (Over' node pointer plan) (two kind left right) spells is = absurd spells
  nodes_known (Two' node pointer plan pointer' plan') (leaf kind) spells is = absurd spells
  nodes_known (Two' node pointer plan pointer' plan') (over kind kid) spells is = absurd spells
  nodes_known (Two' node pointer plan pointer' plan') (two kind left right) spells is =
      All-cons (IsNodeOf q) node (nodes_of plan ++ nodes_of plan') (kind, spells.0, is.2)
      (All-append (IsNodeOf q) (nodes_of plan) (nodes_of plan') (nodes_known plan left spells.1 is.0)
      (nodes_known plan' right spells.2 is.1))

  -- each has the right kids
  pub kids_right : (t : Tree) → IsPlanTree q t → All (RootHasKids q) (plans_in t)
  kids_right (leaf node) is = All-cons (RootHasKids q) (leaf node) [] is.1 (All-nil (RootHasKids q))
  kids_right (over node kid) is = All-cons (RootHasKids q) (over node kid) (plans_in kid) is.2 (kids_right kid is.0)
  kids_right (two node left right) is =
      All-cons (RootHasKids q) (two node left right) (plans_in left ++ plans_in right) is.3
      (All-append (RootHasKids q) (plans_in left) (plans_in right) (kids_right left is.0) (kids_right right is.1))

  -- the plan's own lines are of nodes of the query
  pub own_known : (t : Tree) → IsPlanTree q t → All (IsLineOf q) (own_lines q t)
  own_known (leaf node) is =
      All-cons (IsLineOf q) (own_line q node []) [] is.0
      (All-nil (IsLineOf q))
  own_known (over node kid) is =
      All-cons (IsLineOf q) (own_line q node (kid_of q kid ∷ [])) (own_lines q kid) is.1
      (own_known kid is.0)
  own_known (two node left right) is =
      All-cons (IsLineOf q) (own_line q node (kid_of q left ∷ kid_of q right ∷ []))
      (own_lines q left ++ own_lines q right) is.2
      (All-append (IsLineOf q) (own_lines q left) (own_lines q right)
      (own_known left is.0) (own_known right is.1))
