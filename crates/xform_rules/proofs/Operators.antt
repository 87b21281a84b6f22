-- Facts on logical operators, and on physical ones.
use Rattle.std.proofs.Common.{◌≡◌, true, false, refl, subst, Option, None, Some}
use Rattle.std.specs.Option.{option_map}
use Rattle.query_core.specs.Expressions.{is_logical}
use Rattle.query_core.specs.declared.words.KeyParts.{KeyParts}
use Rattle.query_core.specs.declared.expressions.Logical.{Logical}
use Rattle.query_core.specs.declared.expressions.Physical.{Physical}
use Rattle.query_core.specs.declared.expressions.Operator.{Operator}
use Rattle.query_core.specs.declared.expressions.Operator.TheVariants as operators
use Rattle.query_core.specs.declared.expressions.ExprParts.{ExprParts}
use Rattle.xform_rules.specs.Forms.{Finds, IsLogical, IsPhysical}

-- the logical operator of which the fact holds
pub logical_from : (P : Logical → Type 0) (o : Operator) → IsLogical P o → (from : Logical)
    × (o ≡ operators.Logical from) × P from
logical_from P (operators.Logical from) holds = (from, refl, holds)
logical_from P (operators.Physical o) never = absurd never

pub physical_from : (P : Physical → Type 0) (o : Operator) → IsPhysical P o → (from : Physical)
    × (o ≡ operators.Physical from) × P from
physical_from P (operators.Physical from) holds = (from, refl, holds)
physical_from P (operators.Logical o) never = absurd never

-- a weaker fact
pub logical_as : (P Q : Logical → Type 0) → ((from : Logical) → P from → Q from) → (o : Operator) → IsLogical P o
    → IsLogical Q o
logical_as P Q weaker (operators.Logical from) holds = weaker from holds
logical_as P Q weaker (operators.Physical o) never = never

-- where the fact holds of one operator, two of which it holds are one
pub logical_one : (P : Logical → Type 0) → ((a b : Logical) → P a → P b → a ≡ b) → (x y : Operator) → IsLogical P x
    → IsLogical P y → x ≡ y
logical_one P one (operators.Logical a) (operators.Logical b) this other = let same : a ≡ b = one a b this other in cc
logical_one P one (operators.Logical a) (operators.Physical b) this other = absurd other
logical_one P one (operators.Physical a) y this other = absurd this

pub physical_one : (P : Physical → Type 0) → ((a b : Physical) → P a → P b → a ≡ b) → (x y : Operator) → IsPhysical P x
    → IsPhysical P y → x ≡ y
physical_one P one (operators.Physical a) (operators.Physical b) this other = let same : a ≡ b = one a b this other in
    cc
physical_one P one (operators.Physical a) (operators.Logical b) this other = absurd other
physical_one P one (operators.Logical a) y this other = absurd this

-- of which kind an operator is
pub logical_kind : (P : Logical → Type 0) (o : Operator) → IsLogical P o → is_logical o ≡ true
logical_kind P (operators.Logical o) holds = refl
logical_kind P (operators.Physical o) never = absurd never

pub physical_kind : (P : Physical → Type 0) (o : Operator) → IsPhysical P o → is_logical o ≡ false
physical_kind P (operators.Logical o) never = absurd never
physical_kind P (operators.Physical o) holds = refl

-- what is found among logical operators, and among physical ones
no_logical : (P : Logical → Type 0) → ((x : Logical) → P x → ⊥) → (o : Operator) → IsLogical P o → ⊥
no_logical P none (operators.Logical o) holds = none o holds
no_logical P none (operators.Physical o) never = never

no_physical : (P : Physical → Type 0) → ((x : Physical) → P x → ⊥) → (o : Operator) → IsPhysical P o → ⊥
no_physical P none (operators.Logical o) never = never
no_physical P none (operators.Physical o) holds = none o holds

pub finds_logical : (P : Logical → Type 0) (found : Option Logical) → Finds P found
    → Finds (IsLogical P) (option_map operators.Logical found)
finds_logical P None finds = no_logical P finds
finds_logical P (Some x) finds = finds

pub finds_physical : (P : Physical → Type 0) (found : Option Physical) → Finds P found
    → Finds (IsPhysical P) (option_map operators.Physical found)
finds_physical P None finds = no_physical P finds
finds_physical P (Some x) finds = finds

-- an expression is its group and its operator
pub expr_one : (x y : ExprParts) → x.group ≡ y.group → x.operator ≡ y.operator → x ≡ y
expr_one x y group operator = subst (λ (g : KeyParts). x ≡ record { group = g; operator = y.operator }) group
    (subst (λ (o : Operator). x ≡ record { group = x.group; operator = o }) operator refl)
