-- Laws of the expressions that the groups of a query can hold.
use Rattle.std.proofs.Common.{rules, ◌≡◌, ℕ, zero, suc, ◌+◌, ◌<◌, ◌≤◌, ◌^◌, Option, None, Some, List, [], ◌∷◌, length}
use Rattle.std.proofs.Common.{slice_get, refl, sym, subst, ◌∙◌, arith, IsTrue, true, inl, inr, ◌↔◌}
use Rattle.std.specs.List.{list_all, enumerate_from}
use Rattle.std.specs.Option.{option_map_or}
use Rattle.std.proofs.lemmas.Bool.{and_parts, leb-true, cond_both, cases_lt}
use Rattle.std.proofs.lemmas.Nat.{le_or_l, le_or_r}
use Rattle.query_core.specs.Items.{has_own_lists}
use Rattle.query_core.specs.Keys.{IsGroup, top_of, input_of, root_of}
use Rattle.query_core.specs.Expressions.{logical_fields, physical_fields, fields_of, children_of, AreInRange, IsChild}
use Rattle.query_core.specs.Expressions.{IsPacked, FallsInto, HasIndex, IsFiltered, IsJoin, IsAggregated, HasLogical}
use Rattle.query_core.specs.Expressions.{HasPhysical, HasShape, IsCandidate, origin_of}
use Rattle.query_core.specs.Expressions.{implements, access, children_by, index_by, table_in, HasAccess}
use Rattle.query_core.specs.declared.expressions.Access.{Access}
use Rattle.query_core.specs.declared.expressions.Access.TheVariants.{Direct, Index}
use Rattle.query_core.proofs.Implementations.{children_taken, index_taken}
use Rattle.query_core.specs.Finding.{index_count}
use Rattle.query_core.specs.declared.table.Item.{Item}
use Rattle.query_core.specs.declared.table.QueryTable.{QueryTable}
use Rattle.query_core.specs.declared.query.Query.{Query}
use Rattle.query_core.specs.declared.words.KeyParts.{KeyParts}
use Rattle.query_core.specs.declared.words.KeyParts.TheVariants as groups
use Rattle.query_core.specs.declared.expressions.Logical.{Logical}
use Rattle.query_core.specs.declared.expressions.Logical.TheVariants as logical
use Rattle.query_core.specs.declared.expressions.Physical.{Physical}
use Rattle.query_core.specs.declared.expressions.Operator.{Operator}
use Rattle.query_core.specs.declared.expressions.Operator.TheVariants as operators
use Rattle.query_core.specs.declared.expressions.Children.{Children}
use Rattle.query_core.specs.declared.expressions.Children.TheVariants.{Zero, One, Two}
use Rattle.query_core.specs.declared.expressions.ExprParts.{ExprParts}
use Rattle.query_core.proofs.GroupLemmas.{group_in_range, top_group}
use Rattle.query_core.proofs.Whole.{input_group}

-- a table whose lists are valid has at most 16 indexes
table_few : (items : List Item) (place : ℕ) (tables : List QueryTable) (t : ℕ) (table : QueryTable)
    → IsTrue (list_all (λ p. has_own_lists items p.0 p.1) (enumerate_from place tables))
    → slice_get tables t ≡ Some table → length table.indexes ≤ 16
table_few items place [] t table all found = let never : None ≡ Some table = found in cc
table_few items place (first ∷ tables) zero table all found =
    let same : first ≡ table = cc in
    let own : IsTrue (has_own_lists items place first) = (and_parts _ _ all).0 in
    subst (λ x. length x.indexes ≤ 16) same (leb-true _ _ (and_parts _ _ (and_parts _ _ own).0).0)
table_few items place (first ∷ tables) (suc t) table all found =
    table_few items (place + 1) tables t table (and_parts _ _ all).1 found

-- the table at a place is the one that is found there
table_one : (q : Query) (t index : ℕ) (found : Option QueryTable) → slice_get q.tables t ≡ found
    → (index < option_map_or (λ table. length table.indexes) found 0) ↔ HasIndex q t index
table_one q t index None found = (
  λ less. absurd (omega (arith, less)),
  λ (table, is, within).
      let never : None ≡ Some table = sym found ∙ is in cc,
)
table_one q t index (Some own) found = (
  λ less. (own, found, less),
  λ (table, is, within). subst (λ o. index < option_map_or (λ table. length table.indexes) o 0) (sym is ∙ found) within,
)

-- a table has the indexes below its count
pub index_there : (q : Query) (t index : ℕ) → (index < index_count q t) ↔ HasIndex q t index
index_there q t index = table_one q t index (slice_get q.tables t) refl

-- and at most 16
pub count_few : (q : Query) (t : ℕ) → index_count q t ≤ 16
count_few q t = elim (cases_lt 16 (index_count q t)) [
  | inl more ↦
      let (table, found, within) = (index_there q t 16).0 more in
      absurd (omega (arith, table_few q.items 0 q.tables t table q.items_valid.lists found, within))
  | inr few ↦ few
]

-- both parts of a set of the query's tables have their groups
pub part_groups : (q : Query) (set a b : ℕ) → set < 2 ^ length q.tables → FallsInto q set a b → IsGroup q (top_of q a)
    × IsGroup q (top_of q b)
part_groups q set a b small falls = (
  top_group q a falls.some_left (omega (arith, le_or_l a b, falls.whole, small)) falls.left,
  top_group q b falls.some_right (omega (arith, le_or_r a b, falls.whole, small)) falls.right,
)

-- the group of the whole query is one of its groups
pub root_group : (q : Query) → IsGroup q (root_of q)
root_group q = cond_both q.grouped groups.Agg (input_of q) (IsGroup q) (λ grouped. grouped) (λ plain. input_group q)

-- the children are groups of the query
abbrev AreGroups : Query → Children → Type 0
AreGroups q Zero = IsTrue true
AreGroups q (One child) = IsGroup q child
AreGroups q (Two left right) = IsGroup q left × IsGroup q right

-- the child of a filter is its table
filter_child : (q : Query) (group child : KeyParts) → IsGroup q group → IsFiltered group child → IsGroup q child
filter_child q group child known (t, filtered, same) = subst (IsGroup q) (sym same) (subst (IsGroup q) filtered known).0

-- the two children of a join are the groups of the parts
join_children : (q : Query) (group left right : KeyParts) → IsGroup q group → IsJoin q group left right → IsGroup q left
    × IsGroup q right
join_children q group left right known (set, a, b, joined, falls, first, second) =
    let parts = part_groups q set a b (subst (IsGroup q) joined known).0 falls in
    (subst (IsGroup q) (sym first) parts.0, subst (IsGroup q) (sym second) parts.1)

-- the child of an aggregation joins all tables, or is the other aggregation
aggregate_child : (q : Query) (group child : KeyParts) → IsGroup q group → IsAggregated q group child → IsGroup q child
aggregate_child q group child known (aggregated, inl same) = subst (IsGroup q) (sym same) (input_group q)
aggregate_child q group child known (aggregated, inr same) =
    subst (IsGroup q) (sym same) (subst (IsGroup q) aggregated known)

-- the children of a logical operator that a group can have are groups of the query
logical_groups : (q : Query) (group : KeyParts) (o : Logical) → IsGroup q group → HasLogical q group o
    → AreGroups q (logical_fields o).children
logical_groups q group logical.Get known shape = refl
logical_groups q group (logical.Select child) known shape = filter_child q group child known shape
logical_groups q group logical.NJoin known shape = refl
logical_groups q group (logical.Join left right) known shape = join_children q group left right known shape
logical_groups q group (logical.Agg child) known shape = aggregate_child q group child known shape
logical_groups q group (logical.Partial child) known (partial, same) = subst (IsGroup q) (sym same) (input_group q)

-- those of a physical one are those of what it implements, or none
taken_groups : (q : Query) (a : Access) (children : Children) → AreGroups q children
    → AreGroups q (children_by a children)
taken_groups q Direct children known = known
taken_groups q (Index i) children known = refl

physical_groups : (q : Query) (group : KeyParts) (o : Physical) → IsGroup q group → HasPhysical q group o
    → AreGroups q (physical_fields o).children
physical_groups q group o known shape = subst (AreGroups q) (sym (children_taken group o))
    (taken_groups q (access o) (logical_fields (implements group o)).children
    (logical_groups q group (implements group o) known shape.0))

-- the children of an operator that a group can have are groups of the query
shape_groups : (q : Query) (group : KeyParts) (o : Operator) → IsGroup q group → HasShape q group o
    → AreGroups q (children_of o)
shape_groups q group (operators.Logical o) known shape = logical_groups q group o known shape
shape_groups q group (operators.Physical o) known shape = physical_groups q group o known shape

-- a logical operator reads no index
logical_index : (o : Logical) → (logical_fields o).index ≡ 0
logical_index o = grind arith

-- an index that is read is one of the table's, and else 0 stands for it
accessed_below : (q : Query) (group : KeyParts) (a : Access) (limit : ℕ) → index_count q (table_in group) ≤ limit
    → 0 < limit → HasAccess q group a → index_by a < limit
accessed_below q group Direct limit all some there = some
accessed_below q group (Index i) limit all some there =
    omega (arith, (index_there q (table_in group) i).1 there, all)

pub index_below : (q : Query) (group : KeyParts) (o : Operator) (limit : ℕ) → index_count q (table_in group) ≤ limit
    → 0 < limit → HasShape q group o → (fields_of o).index < limit
index_below q group (operators.Logical o) limit all some shape = omega (arith, logical_index o, some)
index_below q group (operators.Physical o) limit all some shape =
    omega (arith, index_taken o, accessed_below q group (access o) limit all some shape.1)

-- each child is a group
each_group : (q : Query) (children : Children) (group : KeyParts) → AreGroups q children → IsChild children group
    → IsGroup q group
each_group q Zero group known never = absurd never
each_group q (One child) group known same = subst (IsGroup q) (sym same) known
each_group q (Two left right) group known (inl same) = subst (IsGroup q) (sym same) known.0
each_group q (Two left right) group known (inr same) = subst (IsGroup q) (sym same) known.1

-- groups of a query are in range
groups_in_range : (q : Query) (children : Children) → AreGroups q children → AreInRange children
groups_in_range q Zero known = refl
groups_in_range q (One child) known = group_in_range q child known
groups_in_range q (Two left right) known = (group_in_range q left known.0, group_in_range q right known.1)

-- a child of an expression that a group can hold is a group of the query
pub child_known : (q : Query) (e : ExprParts) (group : KeyParts) → IsCandidate q e
    → IsChild (children_of e.operator) group → IsGroup q group
child_known q e group candidate child =
    each_group q (children_of e.operator) group (shape_groups q e.group e.operator candidate.known candidate.shape)
    child

-- its parts fit a word
pub candidate_packed : (q : Query) (e : ExprParts) → IsCandidate q e → IsPacked e
candidate_packed q e candidate = record {
  group = group_in_range q e.group candidate.known;
  index =
      let all = count_few q (table_in e.group) in
      omega (arith, index_below q e.group e.operator 16 all (omega arith) candidate.shape);
  children = groups_in_range q (children_of e.operator)
      (shape_groups q e.group e.operator candidate.known candidate.shape);
}

-- a group of the query can hold its origin
pub origin_candidate : (q : Query) (group : KeyParts) → IsGroup q group → IsCandidate q (origin_of q group)
origin_candidate q (groups.Get t) known = search rules
origin_candidate q (groups.Filter t) known = search rules
origin_candidate q (groups.Join set) known = search rules
origin_candidate q groups.Partial known = search rules
origin_candidate q groups.Agg known = search rules
