-- Forms that several rules speak of, and what it is to find one of something.
use Rattle.std.specs.Prelude.{◌≡◌, Option, None, Some}
use Rattle.query_core.specs.declared.words.KeyParts.{KeyParts}
use Rattle.query_core.specs.declared.expressions.Logical.{Logical}
use Rattle.query_core.specs.declared.expressions.Logical.TheVariants as logical
use Rattle.query_core.specs.declared.expressions.Physical.{Physical}
use Rattle.query_core.specs.declared.expressions.Operator.{Operator}
use Rattle.query_core.specs.declared.expressions.Operator.TheVariants as operators
use Rattle.query_core.specs.declared.expressions.ExprParts.{ExprParts}

-- what is found is one of them, and nothing is found only where there is none
abbrev pub Finds : {A : Type 0} → (A → Type 0) → Option A → Type 0
Finds {A} P None = (x : A) → P x → ⊥
Finds P (Some x) = P x

-- a logical operator of which the fact holds
abbrev pub IsLogical : (Logical → Type 0) → Operator → Type 0
IsLogical P (operators.Logical o) = P o
IsLogical P (operators.Physical o) = ⊥

-- a physical operator of which the fact holds
abbrev pub IsPhysical : (Physical → Type 0) → Operator → Type 0
IsPhysical P (operators.Logical o) = ⊥
IsPhysical P (operators.Physical o) = P o

-- in this group, the expression with this logical operator
abbrev pub logical_in : KeyParts → Logical → ExprParts
logical_in group o = record { group = group; operator = operators.Logical o }

-- and that with this physical one
abbrev pub physical_in : KeyParts → Physical → ExprParts
physical_in group o = record { group = group; operator = operators.Physical o }

-- the operator is the join of some groups
abbrev pub IsLogicalJoin : Logical → Type 0
IsLogicalJoin from = (left right : KeyParts) × (from ≡ logical.Join left right)

-- the expression is a logical join with this group on its left
abbrev pub IsLeftSide : ExprParts → KeyParts → Type 0
IsLeftSide e left = (right : KeyParts) × (e.operator ≡ operators.Logical (logical.Join left right))
