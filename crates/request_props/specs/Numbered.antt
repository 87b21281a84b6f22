-- What is asked of the whole plan of a query, and what else a query implies, beside its numbered lists and orders.
use Rattle.std.specs.Prelude.{ℕ, Bool, ◌≡◌, ◌≤◌, ◌<◌, ◌+◌, ◌&&◌, List, Option, None, Some, map}
use Rattle.std.specs.Prelude.{length, nat_lt, slice_get, ⊤}
use Rattle.std.specs.List.{list_all}
use Rattle.std.specs.Option.{option_map_or}
use Rattle.query_core.specs.Crossing.{equal_item}
use Rattle.query_core.specs.Keys.{is_grouped_by}
use Rattle.query_core.specs.declared.query.Query.{Query}
use Rattle.query_core.specs.declared.predicate.Pred.{Pred}
use Rattle.query_core.specs.declared.options.RootDist.{RootDist}
use Rattle.query_core.specs.declared.options.RootDist.TheVariants.{One, Spread}
pub use Rattle.request_props.specs.Numbers.{lists_of, orders_of, IsList, IsNumbered, order_among, order_of, list_number}
pub use Rattle.request_props.specs.Numbers.{list_of, order_number, column_list, column_order}
use Rattle.request_props.specs.Found.{ascending, elements_of, wanted_order}
use Rattle.request_props.specs.Groups.{AreKeys, AreGroupRows}
use Rattle.request_props.specs.Candidates.{AreCandidates, ArePhysical}
use Rattle.request_props.specs.Ends.{AreEnds, AreSetEnds, AreTableEnds, IsGivenBy}
use Rattle.request_props.specs.Lying.{items_of, AreTablesOf}
use Rattle.request_props.specs.JoinSets.{AreJoinTables}
use Rattle.request_props.specs.declared.tables.ends.EqualityEnds.{EqualityEnds}
use Rattle.request_props.specs.declared.given.GivenDist.{GivenDist}
use Rattle.request_props.specs.declared.given.GivenDist.TheVariants as given
use Rattle.request_props.specs.declared.sides.Side.{Side}
use Rattle.request_props.specs.declared.sides.Equality.{Equality}
use Rattle.request_props.specs.declared.request.Dist as dists
use Rattle.request_props.specs.declared.request.Dist.{Dist}
use Rattle.request_props.specs.declared.request.Request.{Request}
use Rattle.request_props.specs.declared.tables.GroupTables.{GroupTables}
use Rattle.request_props.specs.declared.tables.EqualityTables.{EqualityTables}
use Rattle.request_props.specs.declared.tables.PlacementTables.{PlacementTables}
use Rattle.request_props.specs.declared.props.Props.{Props}
use Rattle.request_props.specs.declared.fault.PropsFault.{PropsFault}
use Rattle.request_props.specs.declared.fault.PropsFault.TheVariants.{TooManyLists, TooManyOrders, Memory}

-- the sets of each order, by its number, the empty one's first
abbrev pub AreOrderEnds : Query → List EqualityEnds → Type 0
AreOrderEnds q list = AreEnds q (λ number. IsGivenBy (order_of q number)) (length (orders_of q) + 1) list

-- the distribution that the root option asks for
abbrev pub root_dist : RootDist → Dist
root_dist One = dists.TheVariants.One
root_dist Spread = dists.TheVariants.Spread

-- the number is that of the order
pub record IsNumberOf (orders : List (List ℕ)) (order : List ℕ) (number : ℕ) : Type 0 where
  pub numbered : number ≤ length orders
  pub is_order : order_among orders number ≡ order

-- the request asks for the distribution of the root option and the order of ORDER BY
pub record IsRoot (q : Query) (request : Request) : Type 0 where
  pub dist : request.dist ≡ root_dist q.options.root
  pub order : IsNumberOf (orders_of q) (wanted_order q) request.order

-- the sets of each hashed list, by its number, and of the columns that have none
abbrev pub AreListEnds : Query → List EqualityEnds → Type 0
AreListEnds q list = AreEnds q (λ number column. column_list q column ≡ number) (length (lists_of q) + 1) list

-- a column that an equality compares, with the numbers of its list and of its ascending order
abbrev pub side_of : Query → ℕ → Side
side_of q column = record { column = column; list = column_list q column; order = column_order q column }

-- the same of two columns
abbrev pub both_sides : Query → (ℕ × ℕ) → (Side × Side)
both_sides q columns = (side_of q columns.0, side_of q columns.1)

-- both sides of an equality with this item, where it is one
abbrev pub equality_with : Query → ℕ → Option ℕ → Option Equality
equality_with q left None = None
equality_with q left (Some right) = Some (record { left = side_of q left; right = side_of q right })

-- both sides of a predicate that is an equality of two items
abbrev pub equality_of : Query → Pred → Option Equality
equality_of q pred = equality_with q pred.left (equal_item pred.op pred.right)

-- where the rows of a table lie whose hashed list is this, if it has one
abbrev pub dist_by : Query → Option (List ℕ) → GivenDist
dist_by q None = given.Random
dist_by q (Some list) = given.Hashed (list_number q list)

-- where the rows of a table lie
abbrev pub table_dist : Query → ℕ → GivenDist
table_dist q t = dist_by q (option_map_or (λ table. table.hashed) (slice_get q.tables t) None)

-- what is asked of the whole plan: the distribution of the root option, in the order of ORDER BY
abbrev pub root_request : Query → Request
root_request q = record { dist = root_dist q.options.root; order = order_number q (wanted_order q) }

-- the order of the GROUP BY columns, each ascending
abbrev pub group_order : Query → ℕ
group_order q = order_number q (ascending q.group_by)

-- all of the columns are in GROUP BY
abbrev pub are_grouped : Query → List ℕ → Bool
are_grouped q columns = list_all (is_grouped_by q) columns

-- the list has the number, and all of its columns are in GROUP BY
abbrev pub is_grouped_list : Query → ℕ → Bool
is_grouped_list q list = nat_lt list (length (lists_of q)) && are_grouped q (list_of q list)

-- what each group of the query can hold
pub record AreGroupTables (q : Query) (tables : GroupTables) : Type 0 where
  pub keys : AreKeys q tables.keys
  pub rows : AreGroupRows q tables.rows
  pub candidates : AreCandidates q tables.candidates
  pub physical : ArePhysical q tables.physical

-- the equalities of the query, and which of them have a column of each group, one that gives each order, and one that
-- is all of each list
pub record AreEqualityTables (q : Query) (tables : EqualityTables) : Type 0 where
  pub sides : tables.sides ≡ map (equality_of q) q.preds
  pub of_tables : AreTableEnds q tables.of_tables
  pub of_sets : AreSetEnds q tables.of_sets
  pub of_orders : AreOrderEnds q tables.of_orders
  pub of_lists : AreListEnds q tables.of_lists

-- where rows of tables lie, and where lists and orders do
pub record ArePlacementTables (q : Query) (tables : PlacementTables) : Type 0 where
  pub placings : tables.placings ≡ map (λ table. dist_by q table.hashed) q.tables
  pub grouped : tables.grouped ≡ map (are_grouped q) (lists_of q)
  pub of_lists : AreTablesOf q (lists_of q) tables.of_lists
  pub of_orders : AreTablesOf q (map items_of (orders_of q)) tables.of_orders
  pub by_groups : tables.by_groups ≡ group_order q

-- the query has at most 60 hashed lists and at most 60 orders
pub record IsWithinLimits (q : Query) : Type 0 where
  pub few_lists : length (lists_of q) ≤ 60
  pub few_orders : length (orders_of q) ≤ 60

-- the hashed lists and the orders of the query, at most 60 of each, what is asked of its whole plan, and what else a
-- plan's nodes want to know
pub record IsProps (q : Query) (props : Props) : Type 0 where
  pub lists : props.hashed ≡ lists_of q
  pub few_lists : length (lists_of q) ≤ 60
  pub order_lists : map elements_of props.orders ≡ orders_of q
  pub few_orders : length (orders_of q) ≤ 60
  pub root_request : IsRoot q props.root
  pub groups : AreGroupTables q props.groups.value
  pub equalities : AreEqualityTables q props.equalities.value
  pub placement : ArePlacementTables q props.placement.value
  pub joins : AreJoinTables q props.groups.value.physical props.joins

-- there are more than 60 hashed lists, or else more than 60 orders, and so many of them
abbrev pub IsRefusedFor : Query → PropsFault → Type 0
IsRefusedFor q (TooManyLists found) = (found ≡ length (lists_of q)) × (60 < found)
IsRefusedFor q (TooManyOrders found) = (length (lists_of q) ≤ 60) × (found ≡ length (orders_of q)) × (60 < found)
IsRefusedFor q Memory = ⊤
