-- When a rule applies to an expression, and its results.
use Rattle.std.specs.Prelude.{ℕ, true, Option, None, Some, ◌≡◌, IsTrue}
use Rattle.query_core.specs.Expressions.{IsCandidate, word_of}
use Rattle.query_core.specs.declared.query.Query.{Query}
use Rattle.query_core.specs.declared.words.Expr.{Expr}
use Rattle.query_core.specs.declared.words.KeyParts.{KeyParts}
use Rattle.query_core.specs.declared.expressions.Logical.{Logical}
use Rattle.query_core.specs.declared.expressions.Physical.{Physical}
use Rattle.query_core.specs.declared.expressions.Operator.{Operator}
use Rattle.query_core.specs.declared.expressions.ExprParts.{ExprParts}
use Rattle.xform_rules.specs.declared.rules.Rule.{Rule}
use Rattle.xform_rules.specs.declared.rules.Rule.TheVariants as rules
use Rattle.xform_rules.specs.declared.rules.Work.{Work}
use Rattle.xform_rules.specs.declared.rules.Work.TheVariants as works
use Rattle.xform_rules.specs.declared.rules.Exploration.{Exploration}
use Rattle.xform_rules.specs.declared.rules.Exploration.TheVariants.{Expansion, Commutation, Association, Split}
use Rattle.xform_rules.specs.Rules.{rule_number, work_of, IsOn}
use Rattle.xform_rules.specs.Forms.{IsLogical, IsPhysical, IsLogicalJoin}
use Rattle.xform_rules.specs.ExpandNAry.{JoinsSet, Expands}
use Rattle.xform_rules.specs.JoinCommute.{Commutes}
use Rattle.xform_rules.specs.JoinAssociate.{IsOverJoin, Associates}
use Rattle.xform_rules.specs.SplitAgg.{GroupsInput, SplitsGrouping}
use Rattle.xform_rules.specs.Implemented.{Makes}

-- the logical operator of a group is one that a rule says otherwise
abbrev pub IsExplored : Query → Exploration → KeyParts → Logical → Type 0
IsExplored q Expansion group from = (set : ℕ) × JoinsSet group from set
IsExplored q Commutation group from = IsLogicalJoin from
IsExplored q Association group from = IsOverJoin from
IsExplored q Split group from = GroupsInput q from

-- or one of which a rule makes a physical operator
abbrev pub IsForWork : Query → Rule → Work → KeyParts → Logical → Type 0
IsForWork q rule (works.Explores way) group from = IsExplored q way group from
IsForWork q rule (works.Implements condition) group from =
    (n : ℕ) × (to : Physical) × Makes q rule condition group from n to

-- the logical operator of a group is one that the rule is for
abbrev pub IsFor : Query → Rule → KeyParts → Logical → Type 0
IsFor q rule group from = IsForWork q rule (work_of rule) group from

-- the rule is on, and the expression is one that it is for
pub record Applies (q : Query) (rule : Rule) (e : ExprParts) : Type 0 where
  pub on : IsOn q rule
  pub is_for : IsLogical (IsFor q rule e.group) e.operator

-- the other logical operator is what a rule that needs no other member says
abbrev pub Says : Query → Exploration → KeyParts → Logical → Logical → Type 0
Says q Expansion group from to = Expands q group from to
Says q Commutation group from to = Commutes from to
Says q Association group from to = ⊥
Says q Split group from to = SplitsGrouping q from to

-- the other operator is the n-th result, from 0, of a rule that needs no other member
abbrev pub GivesByWork : Query → Rule → Work → KeyParts → Logical → ℕ → Operator → Type 0
GivesByWork q rule (works.Explores way) group from n to = (n ≡ 0) × IsLogical (Says q way group from) to
GivesByWork q rule (works.Implements condition) group from n to = IsPhysical (Makes q rule condition group from n) to

abbrev pub Gives : Query → Rule → KeyParts → Logical → ℕ → Operator → Type 0
Gives q rule group from n to = GivesByWork q rule (work_of rule) group from n to

-- the other is the n-th result, from 0, of JoinAssociate, which binds a member of the left group
abbrev pub GivesBound : Query → Rule → Logical → ExprParts → ℕ → Operator → Type 0
GivesBound q rule from bound n to = (rule ≡ rules.JoinAssociate) × (n ≡ 0) × IsLogical (Associates q from bound) to

-- with a bound member or without one
abbrev pub GivesWith : Query → Rule → KeyParts → Option ExprParts → ℕ → Operator → Logical → Type 0
GivesWith q rule group None n to from = Gives q rule group from n to
GivesWith q rule group (Some bound) n to from = GivesBound q rule from bound n to

-- the other is the n-th result, from 0, of a rule that is on, in the same group
pub record HasResult (q : Query) (rule : Rule) (e : ExprParts) (bound : Option ExprParts) (n : ℕ) (other : ExprParts) :
    Type 0 where
  pub on : IsOn q rule
  pub group : other.group ≡ e.group
  pub gives : IsLogical (GivesWith q rule e.group bound n other.operator) e.operator

-- ---- the same over words

-- the word is that of this candidate
abbrev pub IsWordOf : Query → ExprParts → Expr → Type 0
IsWordOf q e word = IsCandidate q e × (word_of e ≡ word.0)

-- so is that of the bound member, where there is one
abbrev pub IsBoundWord : Query → Option ExprParts → Option Expr → Type 0
IsBoundWord q None None = IsTrue true
IsBoundWord q None (Some word) = ⊥
IsBoundWord q (Some bound) None = ⊥
IsBoundWord q (Some bound) (Some word) = IsWordOf q bound word

-- the rule of this number applies to the word's expression
abbrev pub AppliesToWord : Query → ℕ → Expr → Type 0
AppliesToWord q number word = (rule : Rule) × (e : ExprParts) × (rule_number rule ≡ number) × IsWordOf q e word
    × Applies q rule e

-- the other is the word of the n-th result of the rule of this number
abbrev pub HasResultWord : Query → ℕ → Expr → Option Expr → ℕ → Expr → Type 0
HasResultWord q number word bound n other =
    (rule : Rule) × (e result : ExprParts) × (member : Option ExprParts) × (rule_number rule ≡ number)
    × IsWordOf q e word × IsBoundWord q member bound
    × HasResult q rule e member n result × IsWordOf q result other
