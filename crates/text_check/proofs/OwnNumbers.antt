-- The lines of a plan have the plan's own numbers.
use Rattle.std.proofs.Common.{◌≡◌, ℕ, suc, List, [], ◌∷◌, ◌++◌, length, refl, ap, subst, sym, arith, length-append}
use Rattle.std.specs.List.{All, zip}
use Rattle.std.proofs.lemmas.List.Elements.{All-nil, All-cons, All-append}
use Rattle.query_core.specs.declared.query.Query.{Query}
use Rattle.plan_space.specs.Cost.{cost_of}
use Rattle.plan_space.specs.Gives.{kid_of}
use Rattle.plan_space.specs.Nodes.{Tree, leaf, over, two}
use Rattle.plan_space.specs.declared.nodes.NodeKind.{NodeKind}
use Rattle.plan_space.specs.declared.seen.Kid.{Kid}
use Rattle.plan_reading.specs.Lines.{line_of_node, tree_lines}
use Rattle.plan_reading.specs.declared.line.NodeLine.{NodeLine}
use Rattle.text_check.specs.Outcome.{HasOwnNumbers, AreOwnNumbers}
use Rattle.text_check.specs.OwnLines.{own_line, own_lines}
use Rattle.text_check.specs.declared.own.OwnLine.{OwnLine}

-- each beside its own, in two parts
zip_append : {A B : Type 0} → (xs ys : List A) (us vs : List B) → length xs ≡ length us
    → zip (xs ++ ys) (us ++ vs) ≡ zip xs us ++ zip ys vs
zip_append [] ys [] vs long = refl
zip_append [] ys (u ∷ us) vs long = absurd (omega (arith, long))
zip_append (x ∷ xs) ys [] vs long = absurd (omega (arith, long))
zip_append (x ∷ xs) ys (u ∷ us) vs long = ap (λ ps. (x, u) ∷ ps) (zip_append xs ys us vs (omega (arith, long)))

module _ (q : Query) where
  as_many : (depth : ℕ) (t : Tree) → length (tree_lines q depth t) ≡ length (own_lines q t)
  as_many depth (leaf node) = refl
  as_many depth (over node kid) = ap suc (as_many (suc depth) kid)
  as_many depth (two node left right) =
      let first = as_many (suc depth) left in
      let second = as_many (suc depth) right in
      let lines = length-append (tree_lines q (suc depth) left) (tree_lines q (suc depth) right) in
      let own = length-append (own_lines q left) (own_lines q right) in
      omega (arith, first, second, lines, own)

  -- a node's line
  node_numbers : (depth : ℕ) (node : NodeKind) (kids : List Kid) (pairs : List (NodeLine × OwnLine))
      → All HasOwnNumbers pairs → All HasOwnNumbers ((line_of_node q depth node kids, own_line q node kids) ∷ pairs)
  node_numbers depth node kids pairs rest =
      All-cons HasOwnNumbers (line_of_node q depth node kids, own_line q node kids) pairs
      (record { rows = refl; cost = refl }) rest

  plan_numbers : (depth : ℕ) (t : Tree) → All HasOwnNumbers (zip (tree_lines q depth t) (own_lines q t))
  plan_numbers depth (leaf node) = node_numbers depth node [] [] (All-nil HasOwnNumbers)
  plan_numbers depth (over node kid) =
      node_numbers depth node (kid_of q kid ∷ []) (zip (tree_lines q (suc depth) kid) (own_lines q kid))
      (plan_numbers (suc depth) kid)
  plan_numbers depth (two node left right) =
      let firsts = tree_lines q (suc depth) left in
      let seconds = tree_lines q (suc depth) right in
      let both = All-append HasOwnNumbers (zip firsts (own_lines q left)) (zip seconds (own_lines q right))
      (plan_numbers (suc depth) left) (plan_numbers (suc depth) right) in
      node_numbers depth node (kid_of q left ∷ kid_of q right ∷ [])
      (zip (firsts ++ seconds) (own_lines q left ++ own_lines q right))
      (subst (λ ps. All HasOwnNumbers ps)
      (sym (zip_append firsts seconds (own_lines q left) (own_lines q right) (as_many (suc depth) left))) both)

  pub own_numbers : (t : Tree) → AreOwnNumbers (cost_of q t) (tree_lines q 0 t) (cost_of q t) (own_lines q t)
  own_numbers t = record { total_is = refl; each = plan_numbers 0 t }
