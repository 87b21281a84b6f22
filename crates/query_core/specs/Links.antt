-- Which links a query has: those that its predicates make, and those that join the rest to table 0.
use Rattle.std.specs.Prelude.{ℕ, Bool, true, not, List, [], ◌∷◌, Option, None, Some, ◌≡◌, ◌↔◌, ◌&&◌, ◌==◌, ◌<◌, ◌≤◌}
use Rattle.std.specs.Prelude.{◌+◌, ◌-◌, ◌^◌, min, max, length, take, drop, nat_lt, nat_le, slice_get, filter_map}
use Rattle.std.specs.Prelude.{IsTrue, if◌then◌else◌}
use Rattle.std.specs.List.{list_all}
use Rattle.std.specs.Option.{option_map}
use Rattle.query_core.specs.Connected.{are_joined, Reaches}
use Rattle.query_core.specs.declared.table.Item.{Item}
use Rattle.query_core.specs.declared.table.QueryTable.{QueryTable}
use Rattle.query_core.specs.declared.predicate.Link.{Link}
use Rattle.query_core.specs.declared.predicate.Pred.{Pred}
use Rattle.query_core.specs.declared.predicate.Operand as operands
use Rattle.query_core.specs.declared.predicate.Operand.{Operand}

-- the table of the item of this number
abbrev pub table_of : List Item → ℕ → Option ℕ
table_of items number = option_map (λ item. item.table) (slice_get items number)

-- the table of a predicate's right side, where that is a column
abbrev pub right_table : List Item → Operand → Option ℕ
right_table items (operands.TheVariants.Item number) = table_of items number
right_table items (operands.TheVariants.Int value) = None
right_table items (operands.TheVariants.Str text) = None

-- the link between two tables, where both are there and differ
abbrev pub link_between : Option ℕ → Option ℕ → Option Link
link_between None right = None
link_between (Some a) None = None
link_between (Some a) (Some b) = if a == b then None else Some (record { a = a; b = b })

-- the link that a predicate over columns of two different tables makes
abbrev pub link_of : List Item → Pred → Option Link
link_of items pred = link_between (table_of items pred.left) (right_table items pred.right)

-- the links that the predicates make, in their order
abbrev pub predicate_links : List Item → List Pred → List Link
predicate_links items preds = filter_map (link_of items) preds

-- the link joins two different tables of the first so many
abbrev pub is_between : ℕ → Link → Bool
is_between count link = nat_lt link.a count && nat_lt link.b count && not (link.a == link.b)

-- of the tables that the table reaches by these links none is lesser, and it isn't table 0
pub record StartsComponent (count : ℕ) (made : List Link) (table : ℕ) : Type 0 where
  pub not_first : 0 < table
  pub there : table < count
  pub least : (t : ℕ) → Reaches made (2 ^ count - 1) table t → table ≤ t

-- a TRUE link is wanted between the two: table 0, and the least table of a component without it
abbrev pub AreApart : ℕ → List Link → ℕ → ℕ → Type 0
AreApart count made s t = (s ≡ 0) × StartsComponent count made t

-- links from table 0 to tables from this one on, each to a later table than the link before
abbrev pub ascend_from : ℕ → List Link → Bool
ascend_from low [] = true
ascend_from low (link ∷ links) = link.a == 0 && nat_le low link.b && ascend_from (link.b + 1) links

-- TRUE links: from table 0 to the tables that are wanted and to no others, ascending, one to each
pub record AreTrueLinks (IsWanted : ℕ → Type 0) (links : List Link) : Type 0 where
  pub ascending : IsTrue (ascend_from 1 links)
  pub tables : (t : ℕ) → IsTrue (are_joined links 0 t) ↔ IsWanted t

-- the links made, in their order, and behind them the TRUE links to the tables that are wanted
pub record AddsTrueLinks (IsWanted : ℕ → Type 0) (made links : List Link) : Type 0 where
  pub made_first : take (length made) links ≡ made
  pub true_last : AreTrueLinks IsWanted (drop (length made) links)

-- the links that the predicates make, in the predicates' order, and behind them a TRUE link from table 0 to the least
-- table of each component of these links that is without it, ascending
pub record AreLinks (tables : List QueryTable) (items : List Item) (preds : List Pred) (links : List Link) : Type 0
  where
    pub between_tables : IsTrue (list_all (is_between (length tables)) links)
    pub in_order : AddsTrueLinks (StartsComponent (length tables) (predicate_links items preds))
        (predicate_links items preds) links

-- each two tables that are joined by the links made, and each two that are apart, are joined, and no others
pub record JoinsComponents (count : ℕ) (made links : List Link) : Type 0 where
  pub by_predicates : (s t : ℕ) → IsTrue (are_joined made s t) → IsTrue (are_joined links s t)
  pub by_true : (s t : ℕ) → AreApart count made s t → IsTrue (are_joined links s t)
  pub no_others : (s t : ℕ) → IsTrue (are_joined links s t) → IsTrue (not (are_joined made s t))
      → AreApart count made (min s t) (max s t)
