-- The logical members of a group, as exploration finds them.
use Rattle.std.specs.Prelude.{true, ◌≡◌, IsTrue}
use Rattle.query_core.specs.Expressions.{is_logical, origin_of}
use Rattle.query_core.specs.declared.query.Query.{Query}
use Rattle.query_core.specs.declared.words.KeyParts.{KeyParts}
use Rattle.query_core.specs.declared.expressions.ExprParts.{ExprParts}
use Rattle.xform_rules.specs.Rules.{explores}
use Rattle.xform_rules.specs.Results.{Applies}
use Rattle.xform_rules.specs.Closure.{IsMember}
use Rattle.xform_rules.specs.declared.rules.Rule.{Rule}
use Rattle.goal_space.specs.Asked.{IsResultOf}

-- a rule that explores leads from the one expression to the other
pub record LeadsTo (q : Query) (e other : ExprParts) : Type 0 where
  pub rule : Rule
  pub exploring : explores rule ≡ true
  pub applies : Applies q rule e
  pub is_result : IsResultOf q rule e other

-- the group's origin, and what rules lead to from there
pub data Grown (q : Query) (group : KeyParts) : ExprParts → Type 0 where
  begins : Grown q group (origin_of q group)
  grows : (e other : ExprParts) → Grown q group e → LeadsTo q e other → Grown q group other

-- each logical member of a group is one of these
abbrev pub MembersAreGrown : Query → Type 0
MembersAreGrown q = (e : ExprParts) → IsMember q e → IsTrue (is_logical e.operator) → Grown q e.group e
