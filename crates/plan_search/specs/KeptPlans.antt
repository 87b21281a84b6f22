-- What stands at places: the least plans of the requests that are answered, and those of the requests that a node asks
-- for.
use Rattle.std.specs.Prelude.{ℕ, ◌≡◌, ◌<◌, ◌⊎◌, ◌+◌, Option, None, Some}
use Rattle.std.specs.Ordering.{nat_cmp}
use Rattle.std.specs.BTreeMap.{get}
use Rattle.std.specs.Option.{option_and_then, option_map_or}
use Rattle.query_core.specs.Keys.{IsGroup}
use Rattle.query_core.specs.declared.query.Query.{Query}
use Rattle.query_core.specs.declared.words.Key.{Key}
use Rattle.query_core.specs.declared.words.KeyParts.{KeyParts}
use Rattle.xform_rules.specs.Closure.{IsMember}
use Rattle.request_props.specs.declared.request.Request.{Request}
use Rattle.request_props.specs.Fitting.{Fits}
use Rattle.plan_space.specs.declared.nodes.NodeKind.{NodeKind}
use Rattle.plan_space.specs.Nodes.{Tree, leaf, over, two}
use Rattle.plan_space.specs.Cost.{cost_of}
use Rattle.plan_space.specs.Least.{IsLeast, HasNoPlan}
use Rattle.plan_search.specs.declared.kept_plans.KeptPlans.{KeptPlans}
use Rattle.plan_search.specs.declared.choice.KidPlans.{KidPlans}
use Rattle.plan_search.specs.declared.choice.Choice.{Choice}
use Rattle.plan_search.specs.declared.choice.KidPlaces.TheVariants as kids
use Rattle.plan_tree.specs.Nodes.{IsNode}
use Rattle.plan_search.specs.Places.{place_of, place_asked}

-- ---- what stands at places

-- the answer that stands at a place, if there is one
abbrev pub answer_at : KeptPlans → ℕ → Option (Option Choice)
answer_at answers place = get nat_cmp answers.map place

-- the plan's root at the place is this node
pub record IsRootAt (answers : KeptPlans) (place : ℕ) (kept : Choice) (node : NodeKind) : Type 0 where
  pub at : answer_at answers place ≡ Some (Some kept)
  pub is_node : IsNode kept.node node

-- the tree stands at the place: its root does, and the trees below the root stand at the places that are named there,
-- which come before
abbrev pub StandsAt : KeptPlans → ℕ → Tree → Type 0
StandsAt answers place (leaf node) = (kept : Choice) × IsRootAt answers place kept node × (kept.kids ≡ kids.Zero)
StandsAt answers place (over node kid) =
    (kept : Choice) × (below : ℕ) × IsRootAt answers place kept node × (kept.kids ≡ kids.One below) × (below < place)
    × StandsAt answers below kid
StandsAt answers place (two node left right) =
    (kept : Choice) × (first second : ℕ) × IsRootAt answers place kept node × (kept.kids ≡ kids.Two first second)
    × (first < place) × (second < place) × StandsAt answers first left × StandsAt answers second right

-- ---- requests that are answered

-- the tree that stands at the request's place is the least for the request, and this is its cost
pub record IsKept (q : Query) (answers : KeptPlans) (group : KeyParts) (wanted : Request) (kept : Choice)
    (tree : Tree) : Type 0 where
  pub stands : StandsAt answers (place_of group wanted) tree
  pub least : IsLeast (IsMember q) q group wanted tree
  pub cost : kept.cost ≡ cost_of q tree

-- the least plan for the request, or that there is none
abbrev pub IsAnswerFor : Query → KeptPlans → KeyParts → Request → Option Choice → Type 0
IsAnswerFor q answers group wanted None = HasNoPlan (IsMember q) q group wanted
IsAnswerFor q answers group wanted (Some kept) = (tree : Tree) × IsKept q answers group wanted kept tree

-- the request has its answer
abbrev pub IsAnswered : Query → KeptPlans → KeyParts → Request → Type 0
IsAnswered q answers group wanted =
    (answer : Option Choice) × (answer_at answers (place_of group wanted) ≡ Some answer)
    × IsAnswerFor q answers group wanted answer

-- each request that fits its group and has a lesser place has its answer
abbrev pub AreAnswered : Query → KeptPlans → ℕ → Type 0
AreAnswered q answers bound =
    (group : KeyParts) (wanted : Request) → IsGroup q group → Fits q group wanted → place_of group wanted < bound
    → IsAnswered q answers group wanted

-- ---- requests that a node asks for

-- the plan at a place, if there is one
abbrev pub kept_at : KeptPlans → ℕ → Option Choice
kept_at answers place = option_and_then (λ answer. answer) (answer_at answers place)

-- the cost of the plan at a place, or 0
abbrev pub cost_at : KeptPlans → ℕ → ℕ
cost_at answers place = option_map_or (λ kept. kept.cost) (kept_at answers place) 0

-- what is below is the plan at the place
abbrev pub IsPlanAt : KeptPlans → ℕ → KidPlans → Type 0
IsPlanAt answers place below = (kept : Choice) × (kept_at answers place ≡ Some kept)
    × (below ≡ record { kids = kids.One place; cost = kept.cost })

-- what is below is the plans at the two places
abbrev pub ArePlansAt : KeptPlans → ℕ → ℕ → KidPlans → Type 0
ArePlansAt answers first second below =
    (left right : Choice) × (kept_at answers first ≡ Some left) × (kept_at answers second ≡ Some right)
    × (below ≡ record { kids = kids.Two first second; cost = left.cost + right.cost })

-- what is below is the plans at the requests that a node asks for, none where it asks for none of a left child
abbrev pub AreFound : KeptPlans → Option (Key × Request) → Option (Key × Request) → KidPlans → Type 0
AreFound answers None right below = below ≡ record { kids = kids.Zero; cost = 0 }
AreFound answers (Some left) None below = IsPlanAt answers (place_asked left) below
AreFound answers (Some left) (Some right) below = ArePlansAt answers (place_asked left) (place_asked right) below

-- no plan stands at one of the places
abbrev pub IsOneMissing : KeptPlans → ℕ → ℕ → Type 0
IsOneMissing answers first second = (kept_at answers first ≡ None) ⊎ (kept_at answers second ≡ None)

-- no plan stands at one of the requests that a node asks for
abbrev pub IsMissing : KeptPlans → Option (Key × Request) → Option (Key × Request) → Type 0
IsMissing answers None right = ⊥
IsMissing answers (Some left) None = kept_at answers (place_asked left) ≡ None
IsMissing answers (Some left) (Some right) = IsOneMissing answers (place_asked left) (place_asked right)

-- what the plans at the requests that a node asks for cost together
abbrev pub asked_cost : KeptPlans → Option (Key × Request) → Option (Key × Request) → ℕ
asked_cost answers None right = 0
asked_cost answers (Some left) None = cost_at answers (place_asked left)
asked_cost answers (Some left) (Some right) = cost_at answers (place_asked left) + cost_at answers (place_asked right)
