-- Answers as pairs of a cost and a node: that of a plan, and that of a node over plans with answers.
use Rattle.std.specs.Prelude.{ℕ, ◌+◌, List, [], ◌∷◌, Option, None, Some, option_map, Bool, nat_lt, nat_eq, ◌&&◌}
use Rattle.std.specs.Prelude.{◌||◌, if◌then◌else◌}
use Rattle.query_core.specs.declared.query.Query.{Query}
use Rattle.query_core.specs.declared.words.Key.{Key}
use Rattle.request_props.specs.declared.request.Request.{Request}
use Rattle.plan_space.specs.Nodes.{node_number, Tree}
use Rattle.plan_space.specs.Cost.{cost_of}
use Rattle.plan_space.specs.declared.nodes.NodeKind.{NodeKind}
use Rattle.plan_tree.specs.Seen.{root_node}
use Rattle.plan_tree.specs.declared.alternatives.Alt.{Alt}
use Rattle.best_answers.specs.declared.best.Best.{Best}

-- a cost, and the number of a node
abbrev pub pair : ℕ → NodeKind → Best
pair cost node = record { cost = cost; node = record { 0 = node_number node } }

-- the answer that a plan is: its cost, and the number of the node at its root
abbrev pub answer_of : Query → Tree → Best
answer_of q plan = pair (cost_of q plan) (root_node plan)

-- the first has a lesser cost, or the same cost and a lesser node
abbrev pub is_lesser : Best → Best → Bool
is_lesser first second = nat_lt first.cost
    second.cost || (nat_eq first.cost second.cost && nat_lt first.node.0 second.node.0)

-- of two the lesser one
abbrev pub lesser : Option Best → Option Best → Option Best
lesser None second = second
lesser (Some first) None = Some first
lesser (Some first) (Some second) = if is_lesser second first then Some second else Some first

-- what the answers cost together, where each is there
abbrev pub costs_below : List (Option Best) → Option ℕ
costs_below [] = Some 0
costs_below (None ∷ others) = None
costs_below (Some first ∷ others) = option_map (λ cost. first.cost + cost) (costs_below others)

-- the answers for what is asked, the left one first
abbrev pub answers_for : Option (Key × Request) → Option (Key × Request) → Option Best → Option Best
    → List (Option Best)
answers_for None right first second = []
answers_for (Some left) None first second = first ∷ []
answers_for (Some left) (Some right) first second = first ∷ second ∷ []

-- the answers for what an alternative asks of the children, the left one first
abbrev pub answers_asked : Alt → Option Best × Option Best → List (Option Best)
answers_asked alt below = answers_for alt.left alt.right below.0 below.1

-- the answer that a node is, which costs so much itself, over plans that cost so much together
abbrev pub best_over : ℕ → NodeKind → Option ℕ → Option Best
best_over local node below = option_map (λ cost. pair (local + cost) node) below
