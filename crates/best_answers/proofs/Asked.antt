-- The best answers for what an alternative asks, child by child.
use Rattle.std.proofs.Common.{subst}
use Rattle.std.specs.Prelude.{List, [], ◌∷◌, Option, None, Some}
use Rattle.query_core.specs.declared.query.Query.{Query}
use Rattle.query_core.specs.declared.words.Key.{Key}
use Rattle.query_core.specs.declared.words.KeyParts.{KeyParts}
use Rattle.request_props.specs.declared.request.Request.{Request}
use Rattle.plan_tree.specs.declared.node.Node.{Node}
use Rattle.plan_tree.specs.declared.alternatives.Alt.{Alt}
use Rattle.plan_tree.specs.Alternatives.{Asks, AreAsked}
use Rattle.best_answers.specs.Nodes.{all_nodes}
use Rattle.best_answers.specs.Answers.{answers_for, answers_asked}
use Rattle.best_answers.specs.Best.{IsBest, AreBest, IsBestAsked, AreBestBelow}
use Rattle.best_answers.specs.declared.best.Best.{Best}

abbrev alt_of : Node → Option (Key × Request) → Option (Key × Request) → Alt
alt_of node left right = record { node = node; left = left; right = right }

module _ (q : Query) (node : Node) where
  asked : (left : Option (Key × Request)) (group : KeyParts) (wanted : Request) (answer : Option Best)
      → Asks q left group wanted → IsBestAsked q left answer
      → IsBest q group wanted all_nodes answer
  asked None group wanted answer asks best = absurd asks
  asked (Some key) group wanted answer asks best =
      subst (λ r. IsBest q group r all_nodes answer) asks.1 (best group asks.0)

  answered : (left right : Option (Key × Request)) (first second : Option Best) (groups : List KeyParts)
      (wishes : List Request)
      → AreAsked q (alt_of node left right) groups wishes → IsBestAsked q left first → IsBestAsked q right second
      → AreBest q groups wishes (answers_for left right first second)
  answered None right first second [] [] asks x y = tt
  answered (Some left) right first second [] [] asks x y = let never = asks.0 in cc
  answered left right first second [] (wanted ∷ wishes) asks x y = absurd asks
  answered left right first second (group ∷ []) [] asks x y = absurd asks
  answered None right first second (group ∷ []) (wanted ∷ []) asks x y = absurd asks.0
  answered (Some left) None first second (group ∷ []) (wanted ∷ []) asks x y =
      (asked (Some left) group wanted first asks.0 x, tt)
  answered (Some left) (Some right) first second (group ∷ []) (wanted ∷ []) asks x y = let never = asks.1 in cc
  answered left right first second (group ∷ []) (wanted ∷ other ∷ wishes) asks x y = absurd asks
  answered left right first second (group ∷ second_group ∷ []) [] asks x y = absurd asks
  answered left right first second (group ∷ second_group ∷ []) (wanted ∷ []) asks x y = absurd asks
  answered None right first second (group ∷ second_group ∷ []) (wanted ∷ other ∷ []) asks x y = absurd asks.0
  answered (Some left) None first second (group ∷ second_group ∷ []) (wanted ∷ other ∷ []) asks x y = absurd asks.1
  answered (Some left) (Some right) first second (group ∷ second_group ∷ []) (wanted ∷ other ∷ []) asks x y =
      (asked (Some left) group wanted first asks.0 x, (asked (Some right) second_group other second asks.1 y, tt))
  answered left right first second (group ∷ second_group ∷ []) (wanted ∷ other ∷ third ∷ wishes) asks x y = absurd asks
  answered left right first second (group ∷ second_group ∷ third_group ∷ groups) wishes asks x y = absurd asks

-- the answers for what the alternative asks are the best of the children's groups
pub asked_best : (q : Query) (alt : Alt) (below : Option Best × Option Best) (groups : List KeyParts)
    (wishes : List Request) → AreAsked q alt groups wishes → AreBestBelow q alt below
    → AreBest q groups wishes (answers_asked alt below)
asked_best q alt below groups wishes asks best =
    answered q alt.node alt.left alt.right below.0 below.1 groups wishes asks best.left best.right
