-- Which columns count where the equalities are found that have one of them.
use Rattle.std.specs.Prelude.{ℕ, ◌≡◌, Option, None, Some, ⊤}
use Rattle.query_core.specs.declared.query.Query.{Query}
use Rattle.query_core.specs.declared.words.KeyParts.TheVariants.{Get}
use Rattle.request_props.specs.Ends.{HasColumn, IsGivenBy}
use Rattle.request_props.specs.Numbered.{column_list, order_of, side_of}
use Rattle.request_props.specs.declared.tables.ends.ColumnsBy.TheVariants as kinds
use Rattle.request_props.specs.declared.tables.ends.ColumnsBy.{ColumnsBy}
use Rattle.request_props.specs.declared.tables.ends.CountedColumns.TheVariants as columns
use Rattle.request_props.specs.declared.tables.ends.CountedColumns.{CountedColumns}
use Rattle.request_props.specs.declared.sides.Equality.{Equality}

-- it is one of these columns
abbrev pub IsAmong : Query → CountedColumns → ℕ → Type 0
IsAmong q (columns.Of group) = HasColumn q group
IsAmong q columns.All = λ column. ⊤
IsAmong q (columns.One one) = λ column. column ≡ one
IsAmong q (columns.Listed list) = λ column. column_list q column ≡ list
IsAmong q columns.None = λ column. ⊥

-- it is one of the columns of the table, the order or the list of this number
abbrev pub IsColumnBy : Query → ColumnsBy → ℕ → ℕ → Type 0
IsColumnBy q kinds.Tables number = HasColumn q (Get number)
IsColumnBy q kinds.Orders number = IsGivenBy (order_of q number)
IsColumnBy q kinds.Lists number = λ column. column_list q column ≡ number

-- both columns of an equality stand with the numbers of their lists and orders
abbrev pub HaveNumbers : Query → Option Equality → Type 0
HaveNumbers q None = ⊤
HaveNumbers q (Some e) = (e.left ≡ side_of q e.left.column) × (e.right ≡ side_of q e.right.column)

-- it is an equality whose left column is one of these
abbrev pub IsByLeft : (ℕ → Type 0) → Option Equality → Type 0
IsByLeft IsOne None = ⊥
IsByLeft IsOne (Some e) = IsOne e.left.column

-- it is one whose right column is
abbrev pub IsByRight : (ℕ → Type 0) → Option Equality → Type 0
IsByRight IsOne None = ⊥
IsByRight IsOne (Some e) = IsOne e.right.column
