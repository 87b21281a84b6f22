-- Plans with one code are one plan, so the least plan is one.
use Rattle.std.proofs.Common.{◌≡◌, ℕ, ◌≤◌, List, [], ◌∷◌, ◌++◌, length, inl, inr, sym, ap, ◌∙◌, arith}
use Rattle.std.proofs.lemmas.List.{append_assoc}
use Rattle.query_core.specs.Expressions.{word_of, IsPacked}
use Rattle.query_core.specs.declared.query.Query.{Query}
use Rattle.query_core.specs.declared.words.KeyParts.{KeyParts}
use Rattle.query_core.specs.declared.expressions.ExprParts.{ExprParts}
use Rattle.request_props.specs.Numbered.{lists_of, orders_of}
use Rattle.request_props.specs.declared.request.Request.{Request}
use Rattle.plan_space.specs.Nodes.{node_number, Tree, leaf, over, two, code_of}
use Rattle.plan_space.specs.declared.nodes.NodeKind.{NodeKind}
use Rattle.plan_space.specs.declared.seen.Kid.{Kid}
use Rattle.plan_space.specs.Gives.{kid_of}
use Rattle.plan_space.specs.Valid.{NodeFits, IsValid}
use Rattle.plan_space.specs.Least.{IsLeast}
use Rattle.plan_space.specs.Order.{IsAtMost}
use Rattle.plan_space.proofs.Codes.{one_code}
use Rattle.plan_space.proofs.NodeNumbers.{fits_in_range, number_names_one}
use Rattle.plan_space.proofs.Compared.{as_many, least_at_most}

module _ (Member : ExprParts → Type 0) (packed : (e : ExprParts) → Member e → IsPacked e)
    (expressions : (e f : ExprParts) → IsPacked e → IsPacked f → word_of e ≡ word_of f → e ≡ f) (q : Query)
    (few_lists : length (lists_of q) ≤ 60) (few_orders : length (orders_of q) ≤ 60) where
  -- nodes of valid plans with one number are one
  same_node : (a b : NodeKind) (kids others : List Kid) → NodeFits Member q a kids → NodeFits Member q b others
      → node_number a ≡ node_number b → a ≡ b
  same_node a b kids others x y same =
      number_names_one expressions a b (fits_in_range Member packed q 60 few_orders few_lists a kids x)
      (fits_in_range Member packed q 60 few_orders few_lists b others y) same

  -- a code with anything behind it is that of one plan
  code_names_one : (s t : Tree) (rest others : List ℕ) → IsValid Member q s → IsValid Member q t
      → code_of s ++ rest ≡ code_of t ++ others
      → (s ≡ t) × (rest ≡ others)
  code_names_one (leaf a) (leaf b) rest others x y same =
      let number : node_number a ≡ node_number b = cc in
      let node = same_node a b [] [] x y number in
      (ap leaf node, cc)
  code_names_one (leaf a) (over b kid) rest others x y same =
      let number : node_number a ≡ node_number b = cc in let many =
      as_many Member packed expressions q a b [] (kid_of q kid ∷ []) x y.1 number in absurd (omega arith)
  code_names_one (leaf a) (two b left right) rest others x y same =
      let number : node_number a ≡ node_number b = cc in
      let many = as_many Member packed expressions q a b [] (kid_of q left ∷ kid_of q right ∷ []) x y.2 number in
      absurd (omega arith)
  code_names_one (over a kid) (leaf b) rest others x y same =
      let number : node_number a ≡ node_number b = cc in let many =
      as_many Member packed expressions q a b (kid_of q kid ∷ []) [] x.1 y number in absurd (omega arith)
  code_names_one (over a kid) (over b other) rest others x y same =
      let number : node_number a ≡ node_number b = cc in
      let node = same_node a b (kid_of q kid ∷ []) (kid_of q other ∷ []) x.1 y.1 number in
      let below : code_of kid ++ rest ≡ code_of other ++ others = cc in
      let found = code_names_one kid other rest others x.0 y.0 below in
      let kid_is = found.0 in
      (cc, found.1)
  code_names_one (over a kid) (two b left right) rest others x y same =
      let number : node_number a ≡ node_number b = cc in
      let many = as_many Member packed expressions q a b (kid_of q kid ∷ []) (kid_of q left ∷ kid_of q right ∷ []) x.1
      y.2 number in absurd (omega arith)
  code_names_one (two a left right) (leaf b) rest others x y same =
      let number : node_number a ≡ node_number b = cc in
      let many = as_many Member packed expressions q a b (kid_of q left ∷ kid_of q right ∷ []) [] x.2 y number in
      absurd (omega arith)
  code_names_one (two a left right) (over b kid) rest others x y same =
      let number : node_number a ≡ node_number b = cc in
      let many = as_many Member packed expressions q a b (kid_of q left ∷ kid_of q right ∷ []) (kid_of q kid ∷ []) x.2
      y.1 number in absurd (omega arith)
  code_names_one (two a left right) (two b first second) rest others x y same =
      let number : node_number a ≡ node_number b = cc in
      let node = same_node a b (kid_of q left ∷ kid_of q right ∷ []) (kid_of q first ∷ kid_of q second ∷ []) x.2 y.2
      number in
      let behind : (code_of left ++ code_of right) ++ rest ≡ (code_of first ++ code_of second) ++ others = cc in
      let below = sym (append_assoc (code_of left) (code_of right) rest) ∙ behind
      ∙ append_assoc (code_of first) (code_of second) others in
      let found = code_names_one left first (code_of right ++ rest) (code_of second ++ others) x.0 y.0 below in
      let found' = code_names_one right second rest others x.1 y.1 found.1 in
      let left_is = found.0 in
      let right_is = found'.0 in
      (cc, found'.1)

  same_code : (s t : Tree) → IsAtMost q s t → IsAtMost q t s → code_of s ≡ code_of t
  same_code s t (inl x) (inl y) = absurd (omega arith)
  same_code s t (inl x) (inr y) = absurd (omega arith)
  same_code s t (inr x) (inl y) = absurd (omega arith)
  same_code s t (inr x) (inr y) = one_code (code_of s) (code_of t) x.1 y.1

  -- two least plans are one
  pub least_names_one : (group : KeyParts) (wanted : Request) (s t : Tree) → IsLeast Member q group wanted s
      → IsLeast Member q group wanted t → s ≡ t
  least_names_one group wanted s t x y =
      let one = least_at_most Member packed expressions q group wanted s t x y.serves in
      let other = least_at_most Member packed expressions q group wanted t s y x.serves in
      (code_names_one s t [] [] x.serves.valid y.serves.valid (ap (λ code. code ++ []) (same_code s t one other))).0
