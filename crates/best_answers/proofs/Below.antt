-- The plans below a node, of which the best answers for what it asks are told.
use Rattle.std.proofs.Common.{◌≡◌, ℕ, ◌+◌, ◌⊎◌, inl, inr, refl, ap, sym, subst, arith}
use Rattle.std.specs.Prelude.{List, [], ◌∷◌, Option, None, Some, option_map}
use Rattle.query_core.specs.declared.query.Query.{Query}
use Rattle.query_core.specs.declared.words.KeyParts.{KeyParts}
use Rattle.query_core.specs.declared.expressions.Children.{Children}
use Rattle.query_core.specs.declared.expressions.Children.TheVariants.{Zero, One, Two}
use Rattle.xform_rules.specs.Closure.{IsMember}
use Rattle.cost_units.specs.Cost.{local_cost}
use Rattle.request_props.specs.declared.request.Request.{Request}
use Rattle.plan_space.specs.Nodes.{Tree, leaf, over, two}
use Rattle.plan_space.specs.declared.nodes.NodeKind.{NodeKind}
use Rattle.plan_space.specs.declared.seen.Kid.{Kid}
use Rattle.plan_space.specs.Gives.{kid_of}
use Rattle.plan_space.specs.Alternatives.{KidsServe}
use Rattle.plan_space.specs.Cost.{cost_of, shape_of}
use Rattle.plan_space.specs.Least.{IsAnswer}
use Rattle.plan_space.specs.Laws.{AreOf, RequestsFit}
use Rattle.plan_space.specs.Choices.{groups_of, AreLeast, IsNodeOver, LacksOne}
use Rattle.best_answers.specs.Answers.{answer_of, costs_below}
use Rattle.best_answers.specs.Best.{AreBest}
use Rattle.best_answers.specs.Laws.{BestIsLeast}
use Rattle.best_answers.specs.declared.best.Best.{Best}

-- what the plans cost together
abbrev pub costs_of : Query → List Tree → ℕ
costs_of q [] = 0
costs_of q (plan ∷ plans) = cost_of q plan + costs_of q plans

-- what is seen of each plan
abbrev pub sights : Query → List Tree → List Kid
sights q [] = []
sights q (plan ∷ plans) = kid_of q plan ∷ sights q plans

module _ (q : Query) where
  pub least_of : (groups : List KeyParts) (wishes : List Request) (kids : List Tree)
      → AreLeast (IsMember q) q groups wishes kids → AreOf groups (sights q kids)
  least_of [] [] [] least = tt
  least_of [] [] (kid ∷ kids) least = absurd least
  least_of [] (wanted ∷ wishes) kids least = absurd least
  least_of (group ∷ groups) [] kids least = absurd least
  least_of (group ∷ groups) (wanted ∷ wishes) [] least = absurd least
  least_of (group ∷ groups) (wanted ∷ wishes) (kid ∷ kids) least =
      (least.0.serves.of_group, least_of groups wishes kids least.1)

  pub least_serve : (groups : List KeyParts) (wishes : List Request) (kids : List Tree)
      → AreLeast (IsMember q) q groups wishes kids → KidsServe q (sights q kids) wishes
  least_serve [] [] [] least = tt
  least_serve [] [] (kid ∷ kids) least = absurd least
  least_serve [] (wanted ∷ wishes) kids least = absurd least
  least_serve (group ∷ groups) [] kids least = absurd least
  least_serve (group ∷ groups) (wanted ∷ wishes) [] least = absurd least
  least_serve (group ∷ groups) (wanted ∷ wishes) (kid ∷ kids) least =
      (least.0.serves.satisfies, least_serve groups wishes kids least.1)

  -- a node over least plans of children, and what it costs
  pub record IsMadeOver (node : NodeKind) (kids : List Tree) (plan : Tree) : Type 0 where
    pub is : IsNodeOver node kids plan
    pub cost : cost_of q plan ≡ local_cost (shape_of q node (sights q kids)) + costs_of q kids

  pub node_made : (node : NodeKind) (children : Children) (wishes : List Request) (kids : List Tree)
      → AreLeast (IsMember q) q (groups_of children) wishes kids
      → (plan : Tree) × IsMadeOver node kids plan
  node_made node Zero wishes [] least = (leaf node, record { is = refl; cost = omega arith })
  node_made node Zero [] (kid ∷ kids) least = absurd least
  node_made node Zero (wanted ∷ wishes) (kid ∷ kids) least = absurd least
  node_made node (One child) [] kids least = absurd least
  node_made node (One child) (wanted ∷ wishes) [] least = absurd least
  node_made node (One child) (wanted ∷ wishes) (kid ∷ []) least =
      (over node kid, record { is = refl; cost = omega arith })
  node_made node (One child) (wanted ∷ []) (kid ∷ other ∷ kids) least = absurd least.1
  node_made node (One child) (wanted ∷ more ∷ wishes) (kid ∷ other ∷ kids) least = absurd least.1
  node_made node (Two left right) [] kids least = absurd least
  node_made node (Two left right) (wanted ∷ wishes) [] least = absurd least
  node_made node (Two left right) (wanted ∷ []) (kid ∷ kids) least = absurd least.1
  node_made node (Two left right) (wanted ∷ more ∷ wishes) (kid ∷ []) least = absurd least.1
  node_made node (Two left right) (wanted ∷ more ∷ wishes) (kid ∷ other ∷ []) least =
      (two node kid other, record { is = refl; cost = omega arith })
  node_made node (Two left right) (wanted ∷ more ∷ []) (kid ∷ other ∷ third ∷ kids) least = absurd least.1.1
  node_made node (Two left right) (wanted ∷ more ∷ third_wish ∷ wishes) (kid ∷ other ∷ third ∷ kids) least =
      absurd least.1.1

  -- what the best answers tell: least plans with their costs, or that one lacks
  abbrev pub AreBelow : List KeyParts → List Request → List (Option Best) → Type 0
  AreBelow groups wishes answers =
      ((kids : List Tree) × AreLeast (IsMember q) q groups wishes kids × (costs_below answers ≡ Some (costs_of q kids)))
      ⊎ (LacksOne (IsMember q) q groups wishes × (costs_below answers ≡ None))

  module _ (least : BestIsLeast q) where
    first_below : (group : KeyParts) (wanted : Request) (groups : List KeyParts) (wishes : List Request)
        (answer : Option Best) (answers : List (Option Best)) (plan : Option Tree)
        → IsAnswer (IsMember q) q group wanted plan → answer ≡ option_map (answer_of q) plan
        → AreBelow groups wishes answers
        → AreBelow (group ∷ groups) (wanted ∷ wishes) (answer ∷ answers)
    first_below group wanted groups wishes answer answers None none is rest =
        inr (inl none, subst (λ a. costs_below (a ∷ answers) ≡ None) (sym is) refl)
    first_below group wanted groups wishes answer answers (Some plan) plan_least is (inl (kids, are, cost)) =
        inl (
          plan ∷ kids,
          (plan_least, are),
          subst (λ a. costs_below (a ∷ answers) ≡ Some (cost_of q plan + costs_of q kids)) (sym is)
              (ap (option_map (λ c. cost_of q plan + c)) cost),
        )
    first_below group wanted groups wishes answer answers (Some plan) plan_least is (inr (lacks, none)) =
        inr (
          inr lacks,
          subst (λ a. costs_below (a ∷ answers) ≡ None) (sym is)
              (ap (option_map (λ c. cost_of q plan + c)) none),
        )

    pub best_below : (groups : List KeyParts) (wishes : List Request) (answers : List (Option Best))
        → RequestsFit q groups wishes → AreBest q groups wishes answers
        → AreBelow groups wishes answers
    best_below [] [] [] fit best = inl ([], tt, refl)
    best_below [] [] (answer ∷ answers) fit best = absurd best
    best_below [] (wanted ∷ wishes) answers fit best = absurd best
    best_below (group ∷ groups) [] answers fit best = absurd best
    best_below (group ∷ groups) (wanted ∷ wishes) [] fit best = absurd best
    best_below (group ∷ groups) (wanted ∷ wishes) (answer ∷ answers) fit best =
        let found = least group wanted answer fit.0 best.0 in
        first_below group wanted groups wishes answer answers found.0 found.2 found.3
        (best_below groups wishes answers fit.1 best.1)
