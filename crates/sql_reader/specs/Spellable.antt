-- Queries that can be spelled.
use Rattle.std.specs.Prelude.{◌≡◌, ℕ, suc, ◌<◌, ◌^◌, ◌&&◌, not, nat_lt, Bool, true, ℤ, pos, negsuc, List, [], ◌∷◌}
use Rattle.std.specs.Prelude.{Option, Some, None}
use Rattle.std.specs.List.{list_all}
use Rattle.orca_base.specs.Name.{has_name_form}
use Rattle.sql_reader.specs.Words.{word_of}
use Rattle.sql_reader.specs.Pieces.{is_control}
use Rattle.sql_reader.specs.declared.syntax.ColRef.{ColRef}
use Rattle.sql_reader.specs.declared.syntax.SelFunc.{SelFunc}
use Rattle.sql_reader.specs.declared.syntax.SelFunc.TheVariants as funcs
use Rattle.sql_reader.specs.declared.syntax.SelExpr.{SelExpr}
use Rattle.sql_reader.specs.declared.syntax.SelExpr.TheVariants as exprs
use Rattle.sql_reader.specs.declared.syntax.SelItem.{SelItem}
use Rattle.sql_reader.specs.declared.syntax.FromItem.{FromItem}
use Rattle.sql_reader.specs.declared.syntax.SelOperand.{SelOperand}
use Rattle.sql_reader.specs.declared.syntax.SelOperand.TheVariants as operands
use Rattle.sql_reader.specs.declared.syntax.SelPred.{SelPred}
use Rattle.sql_reader.specs.declared.syntax.SelKey.{SelKey}
use Rattle.sql_reader.specs.declared.syntax.Select.{Select}

-- a byte that may stand anywhere
abbrev pub is_plain : ℕ → Bool
is_plain byte = nat_lt byte 128 && not (is_control byte)

-- each byte may stand anywhere
abbrev pub IsPlain : List ℕ → Type 0
IsPlain text = list_all is_plain text ≡ true

-- the form of a name, and no reserved word
abbrev pub IsSpellableName : List ℕ → Type 0
IsSpellableName text = (has_name_form text ≡ true) × (word_of text ≡ None) × (IsPlain text)

-- a magnitude that an integer may have
abbrev pub IsSpellableNumber : ℤ → Type 0
IsSpellableNumber (pos n) = n < 2 ^ 63
IsSpellableNumber (negsuc n) = suc n < 2 ^ 63

-- a name, or none
abbrev pub IsSpellablePart : Option (List ℕ) → Type 0
IsSpellablePart None = Unit {0}
IsSpellablePart (Some name) = IsSpellableName name

-- a column
abbrev pub IsSpellableColumn : ColRef → Type 0
IsSpellableColumn c = IsSpellablePart c.table × IsSpellableName c.name

-- COUNT(*) has no argument, and each other call has one
abbrev pub IsSpellableCall : SelFunc → Option ColRef → Type 0
IsSpellableCall funcs.CountAll None = Unit {0}
IsSpellableCall funcs.CountAll (Some column) = ⊥
IsSpellableCall funcs.Count None = ⊥
IsSpellableCall funcs.Sum None = ⊥
IsSpellableCall funcs.Min None = ⊥
IsSpellableCall funcs.Max None = ⊥
IsSpellableCall funcs.Count (Some column) = IsSpellableColumn column
IsSpellableCall funcs.Sum (Some column) = IsSpellableColumn column
IsSpellableCall funcs.Min (Some column) = IsSpellableColumn column
IsSpellableCall funcs.Max (Some column) = IsSpellableColumn column

-- a column, or a call
abbrev pub IsSpellableExpr : SelExpr → Type 0
IsSpellableExpr (exprs.Column column) = IsSpellableColumn column
IsSpellableExpr (exprs.Agg func arg) = IsSpellableCall func arg

-- an element of the select list
abbrev pub IsSpellableItem : SelItem → Type 0
IsSpellableItem i = IsSpellableExpr i.expr × IsSpellablePart i.name

-- a table
abbrev pub IsSpellableTable : FromItem → Type 0
IsSpellableTable t = IsSpellableName t.table × IsSpellablePart t.alias

-- a column, a number, or a text of plain bytes
abbrev pub IsSpellableOperand : SelOperand → Type 0
IsSpellableOperand (operands.Column column) = IsSpellableColumn column
IsSpellableOperand (operands.Int number) = IsSpellableNumber number
IsSpellableOperand (operands.Str text) = IsPlain text

-- a comparison
abbrev pub IsSpellablePred : SelPred → Type 0
IsSpellablePred p = IsSpellableColumn p.left × IsSpellableOperand p.right

-- a key
abbrev pub IsSpellableKey : SelKey → Type 0
IsSpellableKey k = IsSpellableColumn k.col

-- each is so
abbrev pub Each : {X : Type 0} → (X → Type 0) → List X → Type 0
Each IsSo [] = Unit {0}
Each IsSo (x ∷ xs) = IsSo x × Each IsSo xs

-- one or more, and each is so
abbrev pub OneOrMore : {X : Type 0} → (X → Type 0) → List X → Type 0
OneOrMore IsSo [] = ⊥
OneOrMore IsSo (x ∷ xs) = IsSo x × Each IsSo xs

-- the parts of the query can be spelled, and there are elements and tables
pub record IsSpellable (s : Select) : Type 0 where
  pub items : OneOrMore IsSpellableItem s.items
  pub from : OneOrMore IsSpellableTable s.from
  pub preds : Each IsSpellablePred s.preds
  pub group_by : Each IsSpellableColumn s.group_by
  pub order_by : Each IsSpellableKey s.order_by
