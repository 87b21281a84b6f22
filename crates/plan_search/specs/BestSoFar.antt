-- The best plan so far for a request, and how it goes on when one more is tried.
use Rattle.std.specs.Prelude.{ℕ, slice_get, ◌≡◌, ◌<◌, ◌≤◌, ◌+◌, ◌^◌, List, Option, None, Some, nat_lt, if◌then◌else◌, ⊤}
use Rattle.std.specs.Option.{option_map_or}
use Rattle.query_core.specs.Expressions.{physical_children}
use Rattle.query_core.specs.declared.query.Query.{Query}
use Rattle.query_core.specs.declared.words.KeyParts.{KeyParts}
use Rattle.query_core.specs.declared.expressions.PhysicalExpr.{PhysicalExpr}
use Rattle.xform_rules.specs.Closure.{IsMember}
use Rattle.cardinality.specs.Rows.{rows_of}
use Rattle.cost_units.specs.Cost.{most_rows}
use Rattle.request_props.specs.declared.request.Request.{Request}
use Rattle.plan_space.specs.declared.nodes.NodeKind.{NodeKind}
use Rattle.plan_space.specs.declared.nodes.NodeKind.TheVariants as nodes
use Rattle.plan_space.specs.Nodes.{node_number, Tree, leaf, over, two}
use Rattle.plan_space.specs.Cost.{cost_of}
use Rattle.plan_space.specs.Least.{Serves, IsAnswer}
use Rattle.plan_space.specs.Choices.{Beats, BeatsEnforcer, BeatsMode, LacksOne, AreLeast, IsNodeOver, groups_of}
use Rattle.plan_space.specs.declared.lines.Line.{Line}
use Rattle.plan_space.specs.Alternatives.{IsAlternative, asked_of}
use Rattle.plan_space.specs.Enforcers.{EnforcedBy, enforcers_of, Among}
use Rattle.plan_tree.specs.declared.node.Node.{Node}
use Rattle.plan_search.specs.declared.kept_plans.KeptPlans.{KeptPlans}
use Rattle.plan_search.specs.declared.native.NativeNode.{NativeNode}
use Rattle.plan_search.specs.declared.choice.KidPlans.{KidPlans}
use Rattle.plan_search.specs.declared.choice.Choice.{Choice}
use Rattle.plan_search.specs.declared.choice.KidPlaces.{KidPlaces}
use Rattle.plan_search.specs.declared.choice.KidPlaces.TheVariants as kids
use Rattle.plan_tree.specs.Nodes.{IsNode}
use Rattle.plan_search.specs.Places.{place_of}
use Rattle.plan_search.specs.KeptPlans.{StandsAt}
use Rattle.plan_search.specs.Natives.{mode_number, IsIn}

-- ---- the best plan so far

-- the tree is the node over what stands at these places, which come before the bound
abbrev pub IsBuilt : KeptPlans → ℕ → KidPlaces → NodeKind → Tree → Type 0
IsBuilt answers bound kids.Zero node tree = tree ≡ leaf node
IsBuilt answers bound (kids.One place) node tree = (kid : Tree) × (place < bound) × StandsAt answers place kid
    × (tree ≡ over node kid)
IsBuilt answers bound (kids.Two first second) node tree =
    (left right : Tree) × (first < bound) × (second < bound) × StandsAt answers first left
    × StandsAt answers second right × (tree ≡ two node left right)

-- the choice is this tree, with its cost, and meets the request
pub record IsChosen (q : Query) (answers : KeptPlans) (group : KeyParts) (wanted : Request) (choice : Choice)
    (node : NodeKind) (tree : Tree) : Type 0 where
  pub is_node : IsNode choice.node node
  pub built : IsBuilt answers (place_of group wanted) choice.kids node tree
  pub serves : Serves (IsMember q) q group wanted tree
  pub cost : choice.cost ≡ cost_of q tree

-- the number of the node at the root
abbrev pub root_number : Tree → ℕ
root_number (leaf node) = node_number node
root_number (over node kid) = node_number node
root_number (two node left right) = node_number node

-- the best choice so far is this tree, if there is one
abbrev pub IsBestSoFar : Query → KeptPlans → KeyParts → Request → Option Choice → Option Tree → Type 0
IsBestSoFar q answers group wanted None None = ⊤
IsBestSoFar q answers group wanted None (Some tree) = ⊥
IsBestSoFar q answers group wanted (Some choice) None = ⊥
IsBestSoFar q answers group wanted (Some choice) (Some tree) = (node : NodeKind)
    × IsChosen q answers group wanted choice node tree

-- the choice is the least plan for the request, over what stands at lesser places, or there is none
abbrev pub IsBestChoice : Query → KeptPlans → KeyParts → Request → Option Choice → Type 0
IsBestChoice q answers group wanted choice = (best : Option Tree) × IsBestSoFar q answers group wanted choice best
    × IsAnswer (IsMember q) q group wanted best

-- ---- one choice more

-- the node, which costs so much by itself, over the plans below
abbrev pub choice_over : Node → ℕ → KidPlans → Choice
choice_over node local below = record { node = node; cost = local + below.cost; kids = below.kids }

-- of the two the one that costs less, and of equal ones the first
abbrev pub cheaper_of : Option Choice → Choice → Choice
cheaper_of None choice = choice
cheaper_of (Some best) choice = if nat_lt choice.cost best.cost then choice else best

-- the number of the node at its root is less than the bound
abbrev pub IsRootBelow : Option Tree → ℕ → Type 0
IsRootBelow None bound = ⊤
IsRootBelow (Some tree) bound = root_number tree < bound

-- the other is at most whatever the first is at most
abbrev pub Improves : Query → Option Tree → Option Tree → Type 0
Improves q best other = (plan : Tree) → Beats q best plan → Beats q other plan

-- the best choice after some nodes more, all with lesser numbers than the bound, of which the fact holds
pub record IsLater (q : Query) (answers : KeptPlans) (group : KeyParts) (wanted : Request) (before : Option Tree)
    (bound : ℕ) (Done : Option Tree → Type 0) (best : Option Choice) (after : Option Tree) : Type 0 where
  pub is_best : IsBestSoFar q answers group wanted best after
  pub improves : Improves q before after
  pub root_below : IsRootBelow after bound
  pub done : Done after

-- where the best so far has a root below the first bound, there is one after some nodes more
abbrev pub Goes : Query → KeptPlans → KeyParts → Request → ℕ → ℕ → (Option Tree → Type 0) → Option Choice
    → Option Choice → Type 0
Goes q answers group wanted from to Done old new =
    (before : Option Tree) → IsBestSoFar q answers group wanted old before → IsRootBelow before from
    → (after : Option Tree) × IsLater q answers group wanted before to Done new after

-- ---- members in their modes

-- some child has no plan for what is asked of it
abbrev pub IsLacking : Query → Request → PhysicalExpr → ℕ → Type 0
IsLacking q wanted e mode = (line : Line) → IsAlternative q e wanted mode line
    → LacksOne (IsMember q) q (groups_of (physical_children e.operator)) (asked_of line wanted)

-- the choice is the expression in this mode over least plans
abbrev pub IsMade : Query → KeptPlans → Request → PhysicalExpr → ℕ → Choice → Type 0
IsMade q answers wanted e mode choice =
    (tree : Tree) × IsChosen q answers e.group wanted choice (nodes.Native e mode) tree
    × ((line : Line) → IsAlternative q e wanted mode line
    → (kids : List Tree) × AreLeast (IsMember q) q (groups_of (physical_children e.operator)) (asked_of line wanted)
    kids × IsNodeOver (nodes.Native e mode) kids tree)

-- the best beats each of the list
abbrev pub BeatsModes : Query → Request → List NativeNode → Option Tree → Type 0
BeatsModes q wanted list best = (p : NativeNode) → IsIn p list
    → BeatsMode (IsMember q) q wanted p.expr p.mode best

-- over a member in its mode
abbrev pub GoesOver : Query → KeptPlans → NativeNode → Request → Option Choice → Option Choice → Type 0
GoesOver q answers p wanted old new = Goes q answers p.expr.group wanted (mode_number p) (mode_number p + 1)
    (BeatsMode (IsMember q) q wanted p.expr p.mode) old new

-- over the members of the group in their modes
abbrev pub GoesOverAll : Query → KeptPlans → KeyParts → Request → List NativeNode → Option Choice → Option Choice
    → Type 0
GoesOverAll q answers group wanted list old new =
    Goes q answers group wanted (2 ^ 56) (2 ^ 57) (BeatsModes q wanted list) old new

-- ---- enforcers

-- the group has so many rows, no more than any may have
pub record HasRows (q : Query) (group : KeyParts) (rows : ℕ) : Type 0 where
  pub value : rows ≡ rows_of q group
  pub few : rows ≤ most_rows

-- the number of the n-th enforcer for the request, or one that is above all
abbrev pub number_at_place : Request → ℕ → ℕ
number_at_place wanted n = option_map_or (λ e. node_number (nodes.Enforcer e.node)) (slice_get (enforcers_of wanted) n)
    (2 ^ 56)

-- the best beats the n-th enforcer for the request, if there are so many
abbrev pub BeatsPlace : Query → KeyParts → Request → ℕ → Option Tree → Type 0
BeatsPlace q group wanted n best = (e : EnforcedBy) → slice_get (enforcers_of wanted) n ≡ Some e
    → BeatsEnforcer (IsMember q) q group e best

-- the best beats each enforcer of the list
abbrev pub BeatsEnforcers : Query → KeyParts → List EnforcedBy → Option Tree → Type 0
BeatsEnforcers q group enforcers best = (e : EnforcedBy) → Among e enforcers
    → BeatsEnforcer (IsMember q) q group e best

-- over the n-th enforcer for the request, if there are so many
abbrev pub GoesOverPlace : Query → KeptPlans → KeyParts → Request → ℕ → Option Choice → Option Choice → Type 0
GoesOverPlace q answers group wanted n old new =
    Goes q answers group wanted (number_at_place wanted n) (number_at_place wanted (n + 1))
    (BeatsPlace q group wanted n) old new

-- over the enforcers for the request
abbrev pub GoesOverEnforcers : Query → KeptPlans → KeyParts → Request → Option Choice → Option Choice → Type 0
GoesOverEnforcers q answers group wanted old new =
    Goes q answers group wanted 0 (2 ^ 56) (BeatsEnforcers q group (enforcers_of wanted)) old new
