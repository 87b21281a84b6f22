-- What a join can give of distributions and orders, as sets of the numbers of lists and orders.
use Rattle.std.specs.Prelude.{ℕ, ◌+◌, ◌<◌, ◌↔◌, List, [], Option, None, IfSome, length, slice_index_or, ⊤}
use Rattle.query_core.specs.declared.expressions.Physical.{Physical}
use Rattle.query_core.specs.declared.expressions.Physical.TheVariants as physical
use Rattle.query_core.specs.declared.query.Query.{Query}
use Rattle.query_core.specs.declared.words.KeyParts.{KeyParts}
use Rattle.request_props.specs.Ends.{CrossesBy}
use Rattle.request_props.specs.Fitting.{HashFits, OrderFits}
use Rattle.request_props.specs.NumberSets.{IsInSet}
use Rattle.request_props.specs.Numbers.{column_order, lists_of, order_of, orders_of, IsNumbered}
use Rattle.request_props.specs.Satisfied.{BeginsWith}
use Rattle.request_props.specs.declared.number_set.NumberSet.{NumberSet}
use Rattle.request_props.specs.declared.request.Dist.{Dist}
use Rattle.request_props.specs.declared.request.Dist.TheVariants as dists
use Rattle.request_props.specs.declared.request.Request.{Request}
use Rattle.request_props.specs.declared.tables.join_sets.FittingSets.{FittingSets}
use Rattle.request_props.specs.declared.tables.join_sets.JoinSets.{JoinSets}
use Rattle.request_props.specs.declared.tables.physical.PhysicalCandidate.{PhysicalCandidate}

-- a predicate equates columns across the groups, of which rows in the order of the left one are in the order
abbrev pub Merges : Query → KeyParts → KeyParts → ℕ → Type 0
Merges q left right order =
    (pred : ℕ) × CrossesBy q left right (λ a. BeginsWith (order_of q (column_order q a)) (order_of q order)) pred

-- the set has exactly those of the numbers below the bound of which this holds
abbrev pub AreThoseBelow : (ℕ → Type 0) → ℕ → NumberSet → Type 0
AreThoseBelow Holds bound set = (number : ℕ) → IsInSet set number ↔ ((number < bound) × Holds number)

-- these are the orders that are empty
abbrev pub AreEmptyOrders : Query → NumberSet → Type 0
AreEmptyOrders q orders = AreThoseBelow (λ order. BeginsWith [] (order_of q order)) (length (orders_of q) + 1) orders

-- the lists and the orders are those that fit the group
pub record AreFitting (q : Query) (sets : FittingSets) : Type 0 where
  pub lists : AreThoseBelow (HashFits q sets.group) (length (lists_of q)) sets.lists
  pub orders : AreThoseBelow (OrderFits q sets.group) (length (orders_of q) + 1) sets.orders

-- the lists are those that fit the left child, and the orders those that are given
pub record AreSetsFor (q : Query) (left : KeyParts) (IsGiven : ℕ → Type 0) (sets : JoinSets) : Type 0 where
  pub lists : (list : ℕ) → IsInSet sets.lists list ↔ HashFits q left list
  pub orders : (order : ℕ) → IsNumbered q order → IsInSet sets.orders order ↔ IsGiven order

-- the operator is a join, and the sets are what it can give: a hash join no order, a merge join that of a left column,
-- a loop join that of its left child
abbrev pub AreSetsOf : Query → Physical → JoinSets → Type 0
AreSetsOf q (physical.HashJoin left right) sets = AreSetsFor q left (λ order. BeginsWith [] (order_of q order)) sets
AreSetsOf q (physical.MergeJoin left right) sets = AreSetsFor q left (Merges q left right) sets
AreSetsOf q (physical.LoopJoin left right) sets = AreSetsFor q left (OrderFits q left) sets
AreSetsOf q operator sets = ⊥

-- of each candidate the sets stand at its place, if they were found
abbrev pub AreSetsAt : Query → List PhysicalCandidate → List (Option JoinSets) → Type 0
AreSetsAt q candidates sets = (k : ℕ) (candidate : PhysicalCandidate) → k < length candidates
    → IfSome (slice_index_or sets k None) (AreSetsOf q (slice_index_or candidates k candidate).expr.operator)

-- the same of the candidates of each group, by the key's number
abbrev pub AreJoinTables : Query → List (List PhysicalCandidate) → List (List (Option JoinSets)) → Type 0
AreJoinTables q candidates sets = (number : ℕ)
    → AreSetsAt q (slice_index_or candidates number []) (slice_index_or sets number [])

-- a join over this left child can give the distribution: no copies, and a hash only by a list that fits the child
abbrev pub AllowsDist : NumberSet → Dist → Type 0
AllowsDist lists dists.One = ⊤
AllowsDist lists dists.Spread = ⊤
AllowsDist lists dists.Copies = ⊥
AllowsDist lists (dists.Hashed list) = IsInSet lists list

-- it can give what is asked for
abbrev pub Allows : JoinSets → Request → Type 0
Allows sets wanted = AllowsDist sets.lists wanted.dist × IsInSet sets.orders wanted.order
