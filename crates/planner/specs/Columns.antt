-- The columns by which a node works.
use Rattle.std.specs.Prelude.{ℕ, false, true, ◌/◌, ◌%◌, ◌==◌, List, [], ◌∷◌, flat_map, map, Option, None, Some}
use Rattle.std.specs.Prelude.{if◌then◌else◌}
use Rattle.query_core.specs.Crossing.{crossing_by}
use Rattle.query_core.specs.declared.query.Query.{Query}
use Rattle.query_core.specs.declared.words.KeyParts.{KeyParts}
use Rattle.query_core.specs.declared.expressions.Access.{Access}
use Rattle.query_core.specs.declared.expressions.Access.TheVariants as accesses
use Rattle.query_core.specs.declared.expressions.Logical.{Logical}
use Rattle.query_core.specs.declared.expressions.Logical.TheVariants as logical
use Rattle.query_core.specs.declared.expressions.PhysicalExpr.{PhysicalExpr}
use Rattle.query_text.specs.Columns.{computed_text}
use Rattle.request_props.specs.Numbered.{list_of, order_of}
use Rattle.request_props.specs.Satisfied.{index_columns}
use Rattle.query_core.specs.Expressions.{access, implements, table_in}
use Rattle.plan_space.specs.declared.nodes.Enforcer.{Enforcer}
use Rattle.plan_space.specs.declared.nodes.Enforcer.TheVariants as enforcers
use Rattle.plan_space.specs.declared.nodes.NodeKind.{NodeKind}
use Rattle.plan_space.specs.declared.nodes.NodeKind.TheVariants as nodes
use Rattle.planner.specs.declared.node.PlanColumn.{PlanColumn}

-- a column, or an aggregate, from its least value up
abbrev pub column_at : Query → ℕ → PlanColumn
column_at q number = record { name = computed_text q number; descending = false }

-- an element of an order
abbrev pub column_by : Query → ℕ → PlanColumn
column_by q element = record {
  name = computed_text q (element / 2);
  descending = if element % 2 == 0 then false else true;
}

-- the two columns that a predicate equates, if it does
abbrev pub both_sides : Option (ℕ × ℕ) → List ℕ
both_sides None = []
both_sides (Some sides) = sides.0 ∷ sides.1 ∷ []

-- the two columns of each equality between the groups, that of the left group first
abbrev pub join_columns : Query → KeyParts → KeyParts → List ℕ
join_columns q left right = flat_map (λ pred. both_sides (crossing_by q left right pred)) q.preds

-- of a logical operator: those that it joins by, or groups by
abbrev pub logical_columns : Query → Logical → List ℕ
logical_columns q logical.Get = []
logical_columns q (logical.Select child) = []
logical_columns q logical.NJoin = []
logical_columns q (logical.Join left right) = join_columns q left right
logical_columns q (logical.Agg child) = q.group_by
logical_columns q (logical.Partial child) = q.group_by

-- of an operator of a group that implements this, and comes to its rows so: by an index, that one's
abbrev pub columns_by : Query → KeyParts → Logical → Access → List ℕ
columns_by q group o accesses.Direct = logical_columns q o
columns_by q group o (accesses.Index index) = index_columns q (table_in group) index

-- the columns of an enforcer's order or of its hashed list
abbrev pub enforcer_columns : Query → Enforcer → List PlanColumn
enforcer_columns q enforcers.Gather = []
enforcer_columns q enforcers.Broadcast = []
enforcer_columns q (enforcers.Sort order) = map (column_by q) (order_of q order)
enforcer_columns q (enforcers.GatherMerge order) = map (column_by q) (order_of q order)
enforcer_columns q (enforcers.Redistribute list) = map (column_at q) (list_of q list)

-- those of an expression's operator, by name
abbrev pub native_columns : Query → PhysicalExpr → List PlanColumn
native_columns q e =
    map (column_at q) (columns_by q e.group (implements e.group e.operator) (access e.operator))

-- the columns of a node
abbrev pub columns_of : Query → NodeKind → List PlanColumn
columns_of q (nodes.Native e mode) = native_columns q e
columns_of q (nodes.Enforcer e) = enforcer_columns q e
