-- The plans from which a search chooses for a group and a request: a node over least plans for what it asks of its
-- kids.
use Rattle.std.specs.Prelude.{ℕ, ◌≡◌, ◌⊎◌, List, [], ◌∷◌, Option, None, Some, ⊤}
use Rattle.query_core.specs.Expressions.{expr_of, physical_children}
use Rattle.query_core.specs.declared.query.Query.{Query}
use Rattle.query_core.specs.declared.words.KeyParts.{KeyParts}
use Rattle.query_core.specs.declared.expressions.Children.{Children}
use Rattle.query_core.specs.declared.expressions.Children.TheVariants.{Zero, One, Two}
use Rattle.query_core.specs.declared.expressions.ExprParts.{ExprParts}
use Rattle.query_core.specs.declared.expressions.PhysicalExpr.{PhysicalExpr}
use Rattle.request_props.specs.declared.request.Request.{Request}
use Rattle.plan_space.specs.Nodes.{Tree, leaf, over, two}
use Rattle.plan_space.specs.declared.nodes.NodeKind.{NodeKind}
use Rattle.plan_space.specs.declared.nodes.NodeKind.TheVariants as nodes
use Rattle.plan_space.specs.declared.lines.Line.{Line}
use Rattle.plan_space.specs.Alternatives.{IsAlternative, asked_of}
use Rattle.plan_space.specs.Enforcers.{EnforcedBy, enforcers_of, Among}
use Rattle.plan_space.specs.Least.{IsLess, Serves, IsLeast, HasNoPlan}
use Rattle.plan_space.specs.Order.{IsAtMost}

-- the tree is the node over these plans
abbrev pub IsNodeOver : NodeKind → List Tree → Tree → Type 0
IsNodeOver node [] tree = tree ≡ leaf node
IsNodeOver node (kid ∷ []) tree = tree ≡ over node kid
IsNodeOver node (left ∷ right ∷ []) tree = tree ≡ two node left right
IsNodeOver node (left ∷ right ∷ other ∷ others) tree = ⊥

-- the groups of the children
abbrev pub groups_of : Children → List KeyParts
groups_of Zero = []
groups_of (One child) = child ∷ []
groups_of (Two left right) = left ∷ right ∷ []

-- each plan is the least of its group for its request
abbrev pub AreLeast : (ExprParts → Type 0) → Query → List KeyParts → List Request → List Tree → Type 0
AreLeast Member q [] [] [] = ⊤
AreLeast Member q [] [] (plan ∷ plans) = ⊥
AreLeast Member q [] (wanted ∷ wishes) plans = ⊥
AreLeast Member q (group ∷ groups) [] plans = ⊥
AreLeast Member q (group ∷ groups) (wanted ∷ wishes) [] = ⊥
AreLeast Member q (group ∷ groups) (wanted ∷ wishes) (plan ∷ plans) = IsLeast Member q group wanted plan
    × AreLeast Member q groups wishes plans

-- an enforcer for the request over a least plan, or a member in a mode that is there for the request over least plans
pub data IsChoice (Member : ExprParts → Type 0) (q : Query) (group : KeyParts) (wanted : Request) (plan : Tree) : Type 0
  where
    enforced_choice : (e : EnforcedBy) → (kid : Tree) → Among e (enforcers_of wanted)
        → IsLeast Member q group e.below kid
        → plan ≡ over (nodes.Enforcer e.node) kid
        → IsChoice Member q group wanted plan
    native_choice : (e : PhysicalExpr) → (mode : ℕ) → (line : Line) → (kids : List Tree) → Member (expr_of e)
        → e.group ≡ group → IsAlternative q e wanted mode line
        → AreLeast Member q (groups_of (physical_children e.operator)) (asked_of line wanted) kids
        → IsNodeOver (nodes.Native e mode) kids plan → IsChoice Member q group wanted plan

-- the plan is at most the other; where there is none, it is at most no other
abbrev pub Beats : Query → Option Tree → Tree → Type 0
Beats q None plan = ⊥
Beats q (Some best) plan = IsAtMost q best plan

-- the group has no plan for what the enforcer asks, or the best is at most the enforcer over a least plan for that
abbrev pub BeatsEnforcer : (ExprParts → Type 0) → Query → KeyParts → EnforcedBy → Option Tree → Type 0
BeatsEnforcer Member q group e best =
    ((kid : Tree) × IsLeast Member q group e.below kid × Beats q best (over (nodes.Enforcer e.node) kid))
    ⊎ HasNoPlan Member q group e.below

-- some child has no plan for its request
abbrev pub LacksOne : (ExprParts → Type 0) → Query → List KeyParts → List Request → Type 0
LacksOne Member q [] wishes = ⊥
LacksOne Member q (group ∷ groups) [] = ⊥
LacksOne Member q (group ∷ groups) (wanted ∷ wishes) = HasNoPlan Member q group wanted ⊎ LacksOne Member q groups wishes

-- some child has no plan for what the line asks of it, or the best is at most the expression in this mode over least
-- plans for that
abbrev pub BeatsLine : (ExprParts → Type 0) → Query → PhysicalExpr → ℕ → Line → Request → Option Tree → Type 0
BeatsLine Member q e mode line wanted best =
    ((kids : List Tree) × (plan : Tree) × AreLeast Member q (groups_of (physical_children e.operator))
    (asked_of line wanted) kids × IsNodeOver (nodes.Native e mode) kids plan
    × Beats q best plan)
    ⊎ LacksOne Member q (groups_of (physical_children e.operator)) (asked_of line wanted)

-- the same of a mode, where it is there for the request
abbrev pub BeatsMode : (ExprParts → Type 0) → Query → Request → PhysicalExpr → ℕ → Option Tree → Type 0
BeatsMode Member q wanted e mode best = (line : Line) → IsAlternative q e wanted mode line
    → BeatsLine Member q e mode line wanted best

-- the best meets the request, if it is there
abbrev pub BestServes : (ExprParts → Type 0) → Query → KeyParts → Request → Option Tree → Type 0
BestServes Member q group wanted None = ⊤
BestServes Member q group wanted (Some best) = Serves Member q group wanted best

-- the best meets the request, and is at most what each node that may stand at the root makes of least plans
pub record BeatsAll (Member : ExprParts → Type 0) (q : Query) (group : KeyParts) (wanted : Request)
    (best : Option Tree) : Type 0 where
  pub best_serves : BestServes Member q group wanted best
  pub enforcers : (e : EnforcedBy) → Among e (enforcers_of wanted) → BeatsEnforcer Member q group e best
  pub members : (e : PhysicalExpr) → (mode : ℕ) → Member (expr_of e) → e.group ≡ group
      → BeatsMode Member q wanted e mode best

-- ---- plans with one expression at the root

-- a plan for the request with the expression at its root, in some mode
pub record ServesAtRoot (Member : ExprParts → Type 0) (q : Query) (e : PhysicalExpr) (wanted : Request) (plan : Tree) :
    Type 0 where
  pub mode : ℕ
  pub kids : List Tree
  pub is_over : IsNodeOver (nodes.Native e mode) kids plan
  pub serves : Serves Member q e.group wanted plan

-- the best is such a plan, if it is there
abbrev pub BestServesAtRoot : (ExprParts → Type 0) → Query → PhysicalExpr → Request → Option Tree → Type 0
BestServesAtRoot Member q e wanted None = ⊤
BestServesAtRoot Member q e wanted (Some best) = ServesAtRoot Member q e wanted best

-- the least of these plans, or that there is none
abbrev pub IsAnswerAtRoot : (ExprParts → Type 0) → Query → PhysicalExpr → Request → Option Tree → Type 0
IsAnswerAtRoot Member q e wanted None = (plan : Tree) → ServesAtRoot Member q e wanted plan → ⊥
IsAnswerAtRoot Member q e wanted (Some plan) = ServesAtRoot Member q e wanted plan
    × ((other : Tree) → ServesAtRoot Member q e wanted other → IsLess q other plan → ⊥)
