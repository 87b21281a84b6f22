-- Which equalities have a column of a group, or one that gives an order, as sets of the numbers of predicates.
use Rattle.std.specs.Prelude.{ℕ, ◌≡◌, ◌<◌, ◌-◌, ◌*◌, ◌^◌, ◌⊎◌, ◌↔◌, Some, List, [], ◌∷◌, length, slice_get}
use Rattle.std.specs.Prelude.{slice_index_or, IsTrue}
use Rattle.query_core.specs.Crossing.{crossing_of, equal_item}
use Rattle.query_core.specs.Keys.{has_item}
use Rattle.query_core.specs.declared.predicate.Pred.{Pred}
use Rattle.query_core.specs.declared.query.Query.{Query}
use Rattle.query_core.specs.declared.words.KeyParts.{KeyParts}
use Rattle.query_core.specs.declared.words.KeyParts.TheVariants.{Get, Join}
use Rattle.request_props.specs.declared.tables.ends.EqualityEnds.{EqualityEnds}
use Rattle.request_props.specs.declared.number_set.NumberSet.{NumberSet}
use Rattle.request_props.specs.NumberSets.{IsInSet}

-- the predicate of this number is an equality of these two items
pub record IsEqualityAt (q : Query) (number a b : ℕ) : Type 0 where
  pub pred : Pred
  pub there : slice_get q.preds number ≡ Some pred
  pub first : pred.left ≡ a
  pub second : equal_item pred.op pred.right ≡ Some b

-- the group has the column
abbrev pub HasColumn : Query → KeyParts → ℕ → Type 0
HasColumn q group column = IsTrue (has_item q group column)

-- rows in the order of this column alone, ascending, are in the order
abbrev pub IsGivenBy : List ℕ → ℕ → Type 0
IsGivenBy order column = (order ≡ []) ⊎ (order ≡ (2 * column) ∷ [])

-- the predicate of this number is an equality whose first item is one of these columns
abbrev pub BeginsIn : Query → (ℕ → Type 0) → ℕ → Type 0
BeginsIn q IsOne number = (a b : ℕ) × IsEqualityAt q number a b × IsOne a

-- and whose second item is
abbrev pub EndsIn : Query → (ℕ → Type 0) → ℕ → Type 0
EndsIn q IsOne number = (a b : ℕ) × IsEqualityAt q number a b × IsOne b

-- of the predicates below the bound, the sets have exactly the equalities whose first item is one of these columns, and
-- those whose second is
pub record AreEndsBelow (q : Query) (IsOne : ℕ → Type 0) (bound : ℕ) (ends : EqualityEnds) : Type 0 where
  pub first : (number : ℕ) → IsInSet ends.first number ↔ ((number < bound) × BeginsIn q IsOne number)
  pub second : (number : ℕ) → IsInSet ends.second number ↔ ((number < bound) × EndsIn q IsOne number)

-- of all predicates
abbrev pub AreEndsOf : Query → (ℕ → Type 0) → EqualityEnds → Type 0
AreEndsOf q IsOne ends = AreEndsBelow q IsOne (length q.preds) ends

-- so many of them, at each place the sets for the columns of its number
pub record AreEnds (q : Query) (IsOneAt : ℕ → ℕ → Type 0) (places : ℕ) (list : List EqualityEnds) : Type 0 where
  pub count : length list ≡ places
  pub each : (k : ℕ) (d : EqualityEnds) → k < length list → AreEndsOf q (IsOneAt k) (slice_index_or list k d)

-- the sets of each table, by its number
abbrev pub AreTableEnds : Query → List EqualityEnds → Type 0
AreTableEnds q list = AreEnds q (λ table. HasColumn q (Get table)) (length q.tables) list

-- the sets of each set of tables below the bound, by the set
abbrev pub AreSetEndsBelow : Query → ℕ → List EqualityEnds → Type 0
AreSetEndsBelow q bound list = AreEnds q (λ set. HasColumn q (Join set)) bound list

-- of all but the set of all tables
abbrev pub AreSetEnds : Query → List EqualityEnds → Type 0
AreSetEnds q list = AreSetEndsBelow q (2 ^ length q.tables - 1) list

-- the first item of the predicate is one of their columns, and its second is none
abbrev pub HasFirstAlone : EqualityEnds → ℕ → Type 0
HasFirstAlone ends number = IsInSet ends.first number × (IsInSet ends.second number → ⊥)

-- the second item is, and the first is none
abbrev pub HasSecondAlone : EqualityEnds → ℕ → Type 0
HasSecondAlone ends number = IsInSet ends.second number × (IsInSet ends.first number → ⊥)

-- both have the predicate by its first item, or both by its second
abbrev pub HaveBoth : EqualityEnds → EqualityEnds → ℕ → Type 0
HaveBoth one other number = (IsInSet one.first number × IsInSet other.first number)
    ⊎ (IsInSet one.second number × IsInSet other.second number)

-- the one has the predicate by its first item and the other by its second, or the other way round
abbrev pub HasAcross : EqualityEnds → EqualityEnds → ℕ → Type 0
HasAcross one other number = (IsInSet one.first number × IsInSet other.second number)
    ⊎ (IsInSet one.second number × IsInSet other.first number)

-- the same by an item of the one that is among some too; where both ways are open, by its first
abbrev pub HasAcrossBy : EqualityEnds → EqualityEnds → EqualityEnds → ℕ → Type 0
HasAcrossBy one other among number =
    ((IsInSet one.first number × IsInSet other.second number) × IsInSet among.first number)
    ⊎ (((IsInSet one.first number × IsInSet other.second number) → ⊥)
    × (IsInSet one.second number × IsInSet other.first number) × IsInSet among.second number)

-- the predicate equates columns across the groups, of which that of the left group is one of these
abbrev pub CrossesBy : Query → KeyParts → KeyParts → (ℕ → Type 0) → ℕ → Type 0
CrossesBy q left right IsOne number = (a b : ℕ) × (crossing_of q left right number ≡ Some (a, b)) × IsOne a

-- these are exactly the predicates that do
abbrev pub AreCrossingBy : Query → KeyParts → KeyParts → (ℕ → Type 0) → NumberSet → Type 0
AreCrossingBy q left right IsOne preds = (number : ℕ) → IsInSet preds number ↔ CrossesBy q left right IsOne number
