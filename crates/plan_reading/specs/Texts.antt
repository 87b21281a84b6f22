-- The list of the texts of all nodes that a query can name.
use Rattle.std.specs.Prelude.{ℕ, ◌≡◌, ◌<◌, ◌↔◌, ◌⊎◌, List, [], ◌∷◌, All}
use Rattle.std.specs.List.{Contains}
use Rattle.query_core.specs.declared.query.Query.{Query}
use Rattle.query_core.specs.declared.words.KeyParts.TheVariants.{Get}
use Rattle.query_core.specs.declared.expressions.Physical.{Physical}
use Rattle.plan_space.specs.Modes.{modes_end}
use Rattle.plan_space.specs.declared.nodes.Enforcer.{Enforcer}
use Rattle.plan_space.specs.declared.nodes.Enforcer.TheVariants as enforcers
use Rattle.plan_space.specs.declared.nodes.NodeKind.{NodeKind}
use Rattle.plan_space.specs.declared.nodes.NodeKind.TheVariants as nodes
use Rattle.plan_reading.specs.Named.{named_of, named_text, HasForm}
use Rattle.plan_reading.specs.Operators.{direct_operators, index_operators}
use Rattle.plan_reading.specs.declared.named.Named.{Named}
use Rattle.plan_reading.specs.declared.texts.NodeText.{NodeText}

-- a node that the query can name, and its text
pub record IsNodeText (q : Query) (entry : NodeText) : Type 0 where
  pub form : HasForm q entry.node
  pub text : entry.text ≡ named_text q entry.node

-- the list has each node that the query can name, with its text, and nothing else
abbrev pub IsNodeTexts : Query → List NodeText → Type 0
IsNodeTexts q list = (entry : NodeText) → Contains list entry ↔ IsNodeText q entry

-- ---- how the list is made

-- the list has the node with its text
abbrev pub HasText : Query → List NodeText → Named → Type 0
HasText q list node = Contains list (record { text = named_text q node; node = node })

-- texts of nodes were added, and those of all nodes that are wanted are there now
pub record AddsNodeTexts (q : Query) (IsWanted : Named → Type 0) (before after : List NodeText) : Type 0 where
  pub texts : All (IsNodeText q) before → All (IsNodeText q) after
  pub kept : (entry : NodeText) → Contains before entry → Contains after entry
  pub added : (node : Named) → IsWanted node → HasForm q node → HasText q after node

-- the line of the node names it so
abbrev pub IsOfKind : NodeKind → Named → Type 0
IsOfKind kind node = node ≡ named_of kind

-- so does that of the enforcer
abbrev pub IsOfEnforcer : Enforcer → Named → Type 0
IsOfEnforcer e node = IsOfKind (nodes.Enforcer e) node

-- so does that of the operator over the table, in some mode
abbrev pub IsOfOperator : ℕ → Physical → Named → Type 0
IsOfOperator t o node = (mode : ℕ) × (mode < modes_end)
    × IsOfKind (nodes.Native (record { group = Get t; operator = o }) mode) node

-- the node is of one of these
abbrev pub IsOfAny : {X : Type 0} → (X → Named → Type 0) → List X → Named → Type 0
IsOfAny {X} Fact list node = (x : X) × Contains list x × Fact x node

-- the moves of rows that have no number
abbrev pub moves : List Enforcer
moves = enforcers.Gather ∷ enforcers.Broadcast ∷ []

-- the enforcers by an order or a list of this number
abbrev pub enforcers_by : ℕ → List Enforcer
enforcers_by number =
    enforcers.Sort number ∷ enforcers.GatherMerge number ∷ enforcers.Redistribute number ∷ []

-- by one of so many
abbrev pub IsOfNumbers : ℕ → Named → Type 0
IsOfNumbers count node = (number : ℕ) × (number < count) × IsOfAny IsOfEnforcer (enforcers_by number) node

-- a read by one of so many indexes of the table
abbrev pub IsOfIndexes : ℕ → ℕ → Named → Type 0
IsOfIndexes t count node = (index : ℕ) × (index < count) × IsOfAny (IsOfOperator t) (index_operators index) node

-- so many numbers the word of an expression can name as an index
abbrev pub index_numbers : ℕ
index_numbers = 32

-- any operator over the table
abbrev pub IsOfTable : ℕ → Named → Type 0
IsOfTable t node = IsOfAny (IsOfOperator t) direct_operators node ⊎ IsOfIndexes t index_numbers node

abbrev pub IsOfTables : ℕ → Named → Type 0
IsOfTables count node = (t : ℕ) × (t < count) × IsOfTable t node
