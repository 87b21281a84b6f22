-- What the program says of the enforcers that may meet a request.
use Rattle.std.specs.Prelude.{ℕ, ◌≡◌, ◌≤◌, ◌⊎◌, List, [], ◌∷◌, Option, None, Some, length, slice_get, ⊤}
use Rattle.query_core.specs.declared.query.Query.{Query}
use Rattle.query_core.specs.declared.words.KeyParts.{KeyParts}
use Rattle.request_props.specs.declared.request.Request.{Request}
use Rattle.request_props.specs.Numbered.{lists_of, orders_of}
use Rattle.request_props.specs.Fitting.{HashFits, OrderFits, Fits}
use Rattle.plan_space.specs.declared.nodes.Enforcer.{Enforcer}
use Rattle.plan_space.specs.declared.nodes.Enforcer.TheVariants.{Gather, Broadcast, Sort, GatherMerge, Redistribute}
use Rattle.plan_space.specs.declared.nodes.NodeKind.TheVariants as nodes
use Rattle.plan_space.specs.Enforcers.{EnforcedBy, enforcers_of, Among}
use Rattle.plan_tree.specs.Nodes.{EnforcerInRange, IsNode}
use Rattle.plan_tree.specs.declared.enforcers.Enforced.{Enforced}

-- what the enforcer sorts or moves by lies in the group
abbrev pub LiesIn : Query → KeyParts → Enforcer → Type 0
LiesIn q group Gather = ⊤
LiesIn q group Broadcast = ⊤
LiesIn q group (Sort order) = OrderFits q group order
LiesIn q group (GatherMerge order) = OrderFits q group order
LiesIn q group (Redistribute list) = HashFits q group list

-- what an enforcer for a request sorts or moves by lies in each group that the request fits
abbrev pub EnforcersLie : Query → Type 0
EnforcersLie q = (group : KeyParts) (wanted : Request) (e : EnforcedBy) → Fits q group wanted
    → Among e (enforcers_of wanted) → LiesIn q group e.node

-- where the query has at most 60 hashed lists and orders, a number names it
abbrev pub EnforcersAreInRange : Query → Type 0
EnforcersAreInRange q =
    length (lists_of q) ≤ 60 → length (orders_of q) ≤ 60 → (group : KeyParts) (wanted : Request) (e : EnforcedBy)
    → Fits q group wanted → Among e (enforcers_of wanted) → EnforcerInRange e.node

-- those of the enforcers that fit the group, in the same order
abbrev pub AreFitting : Query → KeyParts → List EnforcedBy → List EnforcedBy → Type 0
AreFitting q group [] kept = kept ≡ []
AreFitting q group (first ∷ others) kept =
    (LiesIn q group first.node × ((rest : List EnforcedBy) × AreFitting q group others rest × (kept ≡ first ∷ rest)))
    ⊎ ((LiesIn q group first.node → ⊥) × AreFitting q group others kept)

-- the program's enforcer is this one, or there is none
abbrev pub IsEnforced : Option Enforced → Option EnforcedBy → Type 0
IsEnforced None None = ⊤
IsEnforced None (Some e) = ⊥
IsEnforced (Some found) None = ⊥
IsEnforced (Some found) (Some e) = IsNode found.node (nodes.Enforcer e.node) × (found.below ≡ e.below)

-- of the enforcers for the request that fit the group, the one at this place
pub record IsEnforcerAt (q : Query) (group : KeyParts) (wanted : Request) (place : ℕ) (found : Option Enforced) : Type 0
  where
    pub kept : List EnforcedBy
    pub are_kept : AreFitting q group (enforcers_of wanted) kept
    pub at_place : IsEnforced found (slice_get kept place)

-- of these enforcers at most two fit the group, and these are the first and the second that do
pub record AreBoth (q : Query) (group : KeyParts) (all : List EnforcedBy) (first second : Option Enforced) : Type 0
  where
    pub kept : List EnforcedBy
    pub are_kept : AreFitting q group all kept
    pub few : length kept ≤ 2
    pub is_first : IsEnforced first (slice_get kept 0)
    pub is_second : IsEnforced second (slice_get kept 1)
