-- What the program says of a node's cost, over any plans that give what is asked of them.
use Rattle.std.specs.Prelude.{ℕ, ◌≡◌, ◌≤◌, List, [], ◌∷◌, Option, None, Some, slice_get}
use Rattle.query_core.specs.declared.query.Query.{Query}
use Rattle.query_core.specs.declared.words.KeyParts.{KeyParts}
use Rattle.query_core.specs.Expressions.{physical_children}
use Rattle.query_core.specs.declared.expressions.PhysicalExpr.{PhysicalExpr}
use Rattle.cardinality.specs.Rows.{rows_of}
use Rattle.cost_units.specs.Cost.{local_cost, most_rows}
use Rattle.request_props.specs.Satisfied.{Satisfies}
use Rattle.request_props.specs.declared.request.Request.{Request}
use Rattle.request_props.specs.Dists.{class_asked}
use Rattle.plan_space.specs.declared.lines.Line.{Line}
use Rattle.plan_space.specs.declared.nodes.Enforcer.{Enforcer}
use Rattle.plan_space.specs.Enforcers.{EnforcedBy, enforcers_of, Among}
use Rattle.plan_space.specs.declared.seen.Kid.{Kid}
use Rattle.plan_space.specs.Alternatives.{IsAlternative, asked_of, KidsServe}
use Rattle.plan_space.specs.Choices.{groups_of}
use Rattle.plan_space.specs.Laws.{AreOf}
use Rattle.plan_space.specs.Cost.{native_shape, enforcer_shape, share_of}
use Rattle.plan_tree.specs.declared.cost.ExprRows.{ExprRows}

-- the cost of the expression in the mode over any plans of its children that give what is asked of them
abbrev pub IsNativeCost : Query → PhysicalExpr → ℕ → Request → ℕ → Type 0
IsNativeCost q e mode wanted price =
    (line : Line) (kids : List Kid) → IsAlternative q e wanted mode line
    → AreOf (groups_of (physical_children e.operator)) kids
    → KidsServe q kids (asked_of line wanted) → price ≡ local_cost (native_shape q e mode kids)

-- the cost of the enforcer over any plan of the group that gives what is asked of it
abbrev pub IsEnforcerCost : Query → Enforcer → KeyParts → Request → ℕ → Type 0
IsEnforcerCost q enforcer group below price =
    (kid : Kid) → kid.group ≡ group → Satisfies q kid.given below
    → price ≡ local_cost (enforcer_shape q enforcer (kid ∷ []))

-- the cost of the enforcer, where it is one of those for the request
abbrev pub IsCostAmong : Query → Enforcer → KeyParts → Request → ℕ → Type 0
IsCostAmong q enforcer group wanted price =
    (e : EnforcedBy) → Among e (enforcers_of wanted) → e.node ≡ enforcer → IsEnforcerCost q e.node group e.below price

-- the share of a group by what is asked of it; 0 where there is none
abbrev pub share_asked : Query → Option KeyParts → Option Request → ℕ
share_asked q None asked = 0
share_asked q (Some group) None = 0
share_asked q (Some group) (Some asked) = share_of q group (class_asked asked.dist)

-- the share of the first of these groups by the first of these requests
abbrev pub first_asked : Query → List KeyParts → List Request → ℕ
first_asked q groups wishes = share_asked q (slice_get groups 0) (slice_get wishes 0)

-- the share of the second of these groups by the second of these requests
abbrev pub second_asked : Query → List KeyParts → List Request → ℕ
second_asked q groups wishes = share_asked q (slice_get groups 1) (slice_get wishes 1)

-- the rows of a group; 0 where there is none
abbrev pub rows_if : Query → Option KeyParts → ℕ
rows_if q None = 0
rows_if q (Some group) = rows_of q group

-- the rows of the expression's group and of its children, none more than a group may have
pub record AreRowsOf (q : Query) (e : PhysicalExpr) (rows : ExprRows) : Type 0 where
  pub left : rows.left ≡ rows_if q (slice_get (groups_of (physical_children e.operator)) 0)
  pub right : rows.right ≡ rows_if q (slice_get (groups_of (physical_children e.operator)) 1)
  pub own : rows.own ≡ rows_of q e.group
  pub few_left : rows.left ≤ most_rows
  pub few_right : rows.right ≤ most_rows
  pub few_own : rows.own ≤ most_rows
