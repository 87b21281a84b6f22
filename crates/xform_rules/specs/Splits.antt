-- What the rules reach of joins: which sets of tables have a group in the closure, and which joins of two sets that
-- group holds.
use Rattle.std.specs.Prelude.{ℕ}
use Rattle.query_core.specs.Keys.{top_of}
use Rattle.query_core.specs.Expressions.{origin_of}
use Rattle.query_core.specs.declared.query.Query.{Query}
use Rattle.query_core.specs.declared.words.KeyParts.TheVariants as groups
use Rattle.query_core.specs.declared.expressions.Logical.TheVariants as logical
use Rattle.query_core.specs.declared.expressions.ExprParts.{ExprParts}
use Rattle.xform_rules.specs.declared.rules.Rule.TheVariants as rules
use Rattle.xform_rules.specs.Rules.{IsOn}
use Rattle.xform_rules.specs.Forms.{logical_in}
use Rattle.xform_rules.specs.Closure.{IsMember}

-- in the group of a set, the logical join of the groups of two sets
abbrev pub join_of : Query → ℕ → ℕ → ℕ → ExprParts
join_of q set a b = logical_in (groups.Join set) (logical.Join (top_of q a) (top_of q b))

-- the group of the set is one of the closure's: it has the expression with which it begins
abbrev pub HasJoinGroup : Query → ℕ → Type 0
HasJoinGroup q set = IsMember q (origin_of q (groups.Join set))

-- and it holds the logical join of these two sets
abbrev pub HasJoin : Query → ℕ → ℕ → ℕ → Type 0
HasJoin q set a b = IsMember q (join_of q set a b)

-- both rules that turn joins into joins are on
pub record AreJoinRulesOn (q : Query) : Type 0 where
  pub commute : IsOn q rules.JoinCommute
  pub associate : IsOn q rules.JoinAssociate
