-- In which groups lists and orders lie.
use Rattle.std.specs.Prelude.{ℕ, ◌/◌, ◌≡◌, ◌<◌, ◌↔◌, List, [], Option, None, Some, All, IsTrue, length, map}
use Rattle.std.specs.Prelude.{slice_index_or}
use Rattle.query_core.specs.Keys.{has_item}
use Rattle.query_core.specs.Sets.{Has}
use Rattle.query_core.specs.declared.query.Query.{Query}
use Rattle.query_core.specs.declared.words.KeyParts.{KeyParts}
use Rattle.query_core.specs.declared.words.KeyParts.TheVariants.{Join}

-- each item of the list is one of the group
abbrev pub ListLiesIn : Query → KeyParts → List ℕ → Type 0
ListLiesIn q group list = All (λ item. IsTrue (has_item q group item)) list

-- each element of the order is an item of the group
abbrev pub OrderLiesIn : Query → KeyParts → List ℕ → Type 0
OrderLiesIn q group order = All (λ element. IsTrue (has_item q group (element / 2))) order

-- the items of an order's elements
abbrev pub items_of : List ℕ → List ℕ
items_of order = map (λ element. element / 2) order

-- the set has each of the tables, where these are there
abbrev pub HasTables : ℕ → Option ℕ → Type 0
HasTables set None = ⊥
HasTables set (Some tables) = (t : ℕ) → Has tables t → Has set t

-- the list lies in the joins of the sets that have all these tables, and of no others
abbrev pub IsOver : Query → List ℕ → Option ℕ → Type 0
IsOver q list tables = (set : ℕ) → ListLiesIn q (Join set) list ↔ HasTables set tables

-- the tables of each list's columns; none for a list with an item that is no column
pub record AreTablesOf (q : Query) (lists : List (List ℕ)) (found : List (Option ℕ)) : Type 0 where
  pub count : length found ≡ length lists
  pub each : (k : ℕ) → k < length lists → IsOver q (slice_index_or lists k []) (slice_index_or found k None)
