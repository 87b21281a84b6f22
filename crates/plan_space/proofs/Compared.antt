-- Codes of valid plans are told apart at some place, or are one: so a least plan is at most each other.
use Rattle.std.proofs.Common.{◌≡◌, List, [], ◌∷◌, ◌++◌, length, inl, inr, refl, sym, ◌∙◌, arith}
use Rattle.std.proofs.Math.Nat.{eq-or-lt_of_le}
use Rattle.std.proofs.lemmas.Bool.{cases_lt}
use Rattle.query_core.specs.Expressions.{word_of, IsPacked}
use Rattle.query_core.specs.declared.query.Query.{Query}
use Rattle.query_core.specs.declared.words.KeyParts.{KeyParts}
use Rattle.query_core.specs.declared.expressions.ExprParts.{ExprParts}
use Rattle.request_props.specs.declared.request.Request.{Request}
use Rattle.plan_space.specs.Nodes.{node_number, Tree, leaf, over, two, code_of}
use Rattle.plan_space.specs.declared.nodes.NodeKind.{NodeKind}
use Rattle.plan_space.specs.declared.seen.Kid.{Kid}
use Rattle.plan_space.specs.Gives.{kid_of}
use Rattle.plan_space.specs.Valid.{NodeFits, IsValid}
use Rattle.plan_space.specs.Cost.{cost_of}
use Rattle.plan_space.specs.Least.{IsLess, Serves, IsLeast}
use Rattle.plan_space.specs.Order.{IsAtMost}
use Rattle.plan_space.proofs.Codes.{AreCompared, before_at_most, same_at_most, before_is_less, compared_first}
use Rattle.plan_space.proofs.Codes.{compared_append}
use Rattle.plan_space.proofs.Few.{orders_few, lists_few}
use Rattle.plan_space.proofs.NodeNumbers.{IsNodeWithin, fits_in_range, fits_arity, number_arity}

module _ (Member : ExprParts → Type 0) (packed : (e : ExprParts) → Member e → IsPacked e)
    (expressions : (e f : ExprParts) → IsPacked e → IsPacked f → word_of e ≡ word_of f → e ≡ f) (q : Query) where
  in_range : (node : NodeKind) (kids : List Kid) → NodeFits Member q node kids → IsNodeWithin 91 node
  in_range node kids fits =
      let orders = orders_few q in
      let lists = lists_few q in
      fits_in_range Member packed q 91 (omega arith) (omega arith) node kids fits

  -- nodes with one number stand over as many kids
  pub as_many : (a b : NodeKind) (kids others : List Kid) → NodeFits Member q a kids → NodeFits Member q b others
      → node_number a ≡ node_number b
      → length kids ≡ length others
  as_many a b kids others x y same =
      fits_arity Member q a kids x ∙ number_arity expressions 91 (omega arith) a b (in_range a kids x)
      (in_range b others y) same
      ∙ sym (fits_arity Member q b others y)

  compared : (s t : Tree) → IsValid Member q s → IsValid Member q t → AreCompared (code_of s) (code_of t)
  compared (leaf a) (leaf b) x y = compared_first (node_number a) (node_number b) [] [] (λ same. inr (inl refl))
  compared (leaf a) (over b kid) x y =
      compared_first (node_number a) (node_number b) [] (code_of kid) (λ same. let many =
      as_many a b [] (kid_of q kid ∷ []) x y.1 same in absurd (omega arith))
  compared (leaf a) (two b left right) x y =
      compared_first (node_number a) (node_number b) [] (code_of left ++ code_of right)
      (λ same. let many = as_many a b [] (kid_of q left ∷ kid_of q right ∷ []) x y.2 same in absurd (omega arith))
  compared (over a kid) (leaf b) x y =
      compared_first (node_number a) (node_number b) (code_of kid) [] (λ same. let many =
      as_many a b (kid_of q kid ∷ []) [] x.1 y same in absurd (omega arith))
  compared (over a kid) (over b other) x y =
      compared_first (node_number a) (node_number b) (code_of kid) (code_of other) (λ same. compared kid other x.0 y.0)
  compared (over a kid) (two b left right) x y =
      compared_first (node_number a) (node_number b) (code_of kid) (code_of left ++ code_of right)
      (λ same. let many = as_many a b (kid_of q kid ∷ []) (kid_of q left ∷ kid_of q right ∷ []) x.1 y.2 same in
      absurd (omega arith))
  compared (two a left right) (leaf b) x y =
      compared_first (node_number a) (node_number b) (code_of left ++ code_of right) []
      (λ same. let many = as_many a b (kid_of q left ∷ kid_of q right ∷ []) [] x.2 y same in absurd (omega arith))
  compared (two a left right) (over b kid) x y =
      compared_first (node_number a) (node_number b) (code_of left ++ code_of right) (code_of kid)
      (λ same. let many = as_many a b (kid_of q left ∷ kid_of q right ∷ []) (kid_of q kid ∷ []) x.2 y.1 same in
      absurd (omega arith))
  compared (two a left right) (two b first second) x y =
      compared_first (node_number a) (node_number b) (code_of left ++ code_of right) (code_of first ++ code_of second)
      (λ same. compared_append (code_of left) (code_of first) (code_of right) (code_of second)
      (compared left first x.0 y.0) (compared right second x.1 y.1))

  module _ (plan other : Tree) (not_less : IsLess q other plan → ⊥) where
    by_codes : cost_of q plan ≡ cost_of q other → AreCompared (code_of plan) (code_of other) → IsAtMost q plan other
    by_codes same (inl before) = inr (same, before_at_most (code_of plan) (code_of other) before)
    by_codes same (inr (inl one)) = inr (same, same_at_most (code_of plan) (code_of other) one)
    by_codes same (inr (inr after)) = absurd
        (not_less (inr (sym same, before_is_less (code_of other) (code_of plan) after)))

    -- of valid plans, where the other isn't less, the one is at most the other
    pub not_less_at_most : IsValid Member q plan → IsValid Member q other → IsAtMost q plan other
    not_less_at_most x y = elim (cases_lt (cost_of q other) (cost_of q plan)) [
      | inl less ↦ absurd (not_less (inl less))
      | inr at_least ↦ elim (eq-or-lt_of_le at_least) [
        | inl same ↦ by_codes same (compared plan other x y)
        | inr less ↦ inl less
      ]
    ]

  -- a least plan is at most each plan for the request
  pub least_at_most : (group : KeyParts) (wanted : Request) (plan other : Tree) → IsLeast Member q group wanted plan
      → Serves Member q group wanted other → IsAtMost q plan other
  least_at_most group wanted plan other least serves =
      not_less_at_most plan other (least.none_less other serves) least.serves.valid serves.valid
