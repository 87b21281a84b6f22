-- How the next expression of a group is found: by the children that its operators can have, by their numbers and by
-- indexes; and the least word of a kind.
use Rattle.std.specs.Prelude.{ℕ, ◌≡◌, ◌≤◌, ◌<◌, Option, None, Some, length, slice_get, nat_lt, if◌then◌else◌}
use Rattle.std.specs.Option.{option_map_or}
use Rattle.query_core.specs.Keys.{top_of}
use Rattle.query_core.specs.Expressions.{word_of, fields_of, children_of, left_number, FallsInto, HasShape}
use Rattle.query_core.specs.declared.query.Query.{Query}
use Rattle.query_core.specs.declared.words.Expr.{Expr}
use Rattle.query_core.specs.declared.words.KeyParts.{KeyParts}
use Rattle.query_core.specs.declared.words.KeyParts.TheVariants as groups
use Rattle.query_core.specs.declared.expressions.Children.{Children}
use Rattle.query_core.specs.declared.expressions.Children.TheVariants.{Two}
use Rattle.query_core.specs.declared.expressions.Fields.{Fields}
use Rattle.query_core.specs.declared.expressions.Operator.{Operator}
use Rattle.query_core.specs.declared.expressions.ExprParts.{ExprParts}

-- ---- the expressions of a group

-- the expression of these parts
abbrev pub expr : KeyParts → Operator → ExprParts
expr group operator = record { group = group; operator = operator }

-- how many indexes the table has
abbrev pub index_count : Query → ℕ → ℕ
index_count q t = option_map_or (λ table. length table.indexes) (slice_get q.tables t) 0

-- the number of an expression's operator
abbrev pub operator_number : ExprParts → ℕ
operator_number e = (fields_of e.operator).number

-- the number of the index that it reads, else 0
abbrev pub index_of : ExprParts → ℕ
index_of e = (fields_of e.operator).index

-- the number of its left child in its word, or 0 where there is none
abbrev pub left_of : ExprParts → ℕ
left_of e = left_number (children_of e.operator)

-- the group can have the expression, if it is one of the query
abbrev pub IsHeldBy : Query → KeyParts → ExprParts → Type 0
IsHeldBy q group e = (e.group ≡ group) × HasShape q group e.operator

-- the same over these children
abbrev pub IsOver : Query → KeyParts → Children → ExprParts → Type 0
IsOver q group children e = IsHeldBy q group e × (children_of e.operator ≡ children)

-- the same of an operator of these fields
abbrev pub IsMadeOf : Query → KeyParts → Fields → ExprParts → Type 0
IsMadeOf q group f e = IsHeldBy q group e × (fields_of e.operator ≡ f)

-- the same over two sides into which a set of tables falls
abbrev pub IsJoined : Query → ℕ → ExprParts → Type 0
IsJoined q set e = IsHeldBy q (groups.Join set) e
    × ((a b : ℕ) × FallsInto q set a b × (children_of e.operator ≡ Two (top_of q a) (top_of q b)))

-- ---- places of a kind's expressions

-- it is of the kind, and at this place
abbrev pub IsAt : (ExprParts → Type 0) → (ExprParts → ℕ) → ℕ → ExprParts → Type 0
IsAt Kind place_of place e = Kind e × (place_of e ≡ place)

-- it is of the kind, and at a lesser place
abbrev pub IsBefore : (ExprParts → Type 0) → (ExprParts → ℕ) → ℕ → ExprParts → Type 0
IsBefore Kind place_of place e = Kind e × (place_of e < place)

-- ---- the least word of a kind

-- the word is the least from the bound on of an expression of the kind
pub record IsLeastFrom (Kind : ExprParts → Type 0) (bound word : ℕ) : Type 0 where
  pub there : (e : ExprParts) × Kind e × (word_of e ≡ word)
  pub from : bound ≤ word
  pub least : (e : ExprParts) → Kind e → bound ≤ word_of e → word ≤ word_of e

-- the least word from the bound on, or none where there is none
abbrev pub FindsFrom : (ExprParts → Type 0) → ℕ → Option Expr → Type 0
FindsFrom Kind bound None = (e : ExprParts) → Kind e → bound ≤ word_of e → ⊥
FindsFrom Kind bound (Some found) = IsLeastFrom Kind bound found.0

-- the one of the two whose word is less, if both are there
abbrev pub sooner_of : Option Expr → Option Expr → Option Expr
sooner_of None b = b
sooner_of (Some a) None = Some a
sooner_of (Some a) (Some b) = if nat_lt b.0 a.0 then Some b else Some a
