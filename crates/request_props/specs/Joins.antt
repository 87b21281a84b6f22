-- The pairs of sides into which a set of tables falls, and the words of the joins over them: cited by private functions
-- alone.
use Rattle.std.specs.Prelude.{ℕ, zero, suc, ◌≡◌, ◌+◌, ◌-◌, ◌<◌, List, [], ◌∷◌, ◌++◌, map}
use Rattle.std.specs.List.{All, Contains}
use Rattle.std.specs.List.Sorted.{IsStrictlyIncreasing}
use Rattle.query_core.specs.Connected.{IsConnected}
use Rattle.query_core.specs.Keys.{key_number, IsGroupInRange, top_of}
use Rattle.query_core.specs.Expressions.{fields, packed, word_of, FallsInto}
use Rattle.query_core.specs.Finding.{expr}
use Rattle.query_core.specs.declared.expressions.Children.TheVariants.{Two}
use Rattle.query_core.specs.declared.expressions.TheConstants.{FIRST_JOIN, AFTER_JOINS}
use Rattle.query_core.specs.declared.query.Query.{Query}
use Rattle.query_core.specs.declared.words.KeyParts.TheVariants.{Join}
use Rattle.query_core.specs.declared.expressions.Logical.TheVariants.{NJoin}
use Rattle.query_core.specs.declared.expressions.Operator.TheVariants as operators
use Rattle.request_props.specs.declared.tables.candidates.sides.Sides.{Sides}

-- the tables can be a side of a join: they are connected, and not none
abbrev pub IsSide : Query → ℕ → Type 0
IsSide q tables = (0 < tables) × IsConnected q.links tables

-- the set falls into two sides, the left one with a key of this number
abbrev pub HasSides : Query → ℕ → ℕ → Type 0
HasSides q set left = (a b : ℕ) × FallsInto q set a b × (key_number (top_of q a) ≡ left)

-- the groups that join the tables of two sets
abbrev pub tops_of : Query → ℕ → ℕ → Sides
tops_of q a b = record { left = top_of q a; right = top_of q b }

-- the groups are those of two sides into which the set falls
abbrev pub AreSides : Query → ℕ → Sides → Type 0
AreSides q set sides = (a b : ℕ) × FallsInto q set a b × (sides ≡ tops_of q a b)

-- the same, the left one with a key of this number
abbrev pub AreSidesAt : Query → ℕ → ℕ → Sides → Type 0
AreSidesAt q set left sides = AreSides q set sides × (key_number sides.left ≡ left)

-- the key of the left side
abbrev pub left_of : Sides → ℕ
left_of sides = key_number sides.left

-- all sides into which the set falls, and no others, strictly ascending by the left one's key
pub record AreAllSides (q : Query) (set : ℕ) (found : List Sides) : Type 0 where
  pub ascending : IsStrictlyIncreasing (map left_of found)
  pub sound : All (AreSides q set) found
  pub complete : (a b : ℕ) → FallsInto q set a b → Contains found (tops_of q a b)

-- the same of those whose left one has a key below the bound
pub record AreSidesBelow (q : Query) (set bound : ℕ) (found : List Sides) : Type 0 where
  pub ascending : IsStrictlyIncreasing (map left_of found)
  pub sound : All (AreSides q set) found
  pub below : All (λ sides. left_of sides < bound) found
  pub complete : (a b : ℕ) → FallsInto q set a b → key_number (top_of q a) < bound → Contains found (tops_of q a b)

-- both groups are some that a query can have
abbrev pub AreBothInRange : Sides → Type 0
AreBothInRange sides = IsGroupInRange sides.left × IsGroupInRange sides.right

-- the word of the join of a set over its sides by the operator of this number
abbrev pub join_word : ℕ → ℕ → Sides → ℕ
join_word set number sides = packed (key_number (Join set)) (fields number 0 (Two sides.left sides.right))

-- the words of these joins
abbrev pub join_words : ℕ → ℕ → List Sides → List ℕ
join_words set number found = map (join_word set number) found

-- the word of the join of all tables of a set
abbrev pub many_word : ℕ → ℕ
many_word set = word_of (expr (Join set) (operators.Logical NJoin))

-- behind it the words of the joins over these sides, by as many operators
abbrev pub words_by : ℕ → List Sides → ℕ → List ℕ
words_by set found zero = many_word set ∷ []
words_by set found (suc place) = words_by set found place ++ join_words set (FIRST_JOIN + place) found

-- by all that stand on two groups
abbrev pub words_over : ℕ → List Sides → List ℕ
words_over set found = words_by set found (AFTER_JOINS - FIRST_JOIN)
