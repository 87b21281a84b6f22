-- Joins of two groups that a rule makes only where some predicate equates these.
use Rattle.std.specs.Prelude.{◌≡◌}
use Rattle.query_core.specs.Expressions.{implements}
use Rattle.query_core.specs.declared.expressions.Logical.TheVariants as logical
use Rattle.query_core.specs.declared.expressions.Operator.{Operator}
use Rattle.query_core.specs.declared.expressions.Operator.TheVariants as operators
use Rattle.query_core.specs.declared.words.KeyParts.{KeyParts}
use Rattle.xform_rules.specs.Implemented.{index_of, rule_of}
use Rattle.xform_rules.specs.Rules.{work_of}
use Rattle.xform_rules.specs.declared.rules.Condition.TheVariants.{Equated}
use Rattle.xform_rules.specs.declared.rules.Rule.{Rule}
use Rattle.xform_rules.specs.declared.rules.Work.TheVariants.{Implements}
use Rattle.job_turns.specs.declared.equated_joins.EquatedJoin.{EquatedJoin}

-- the operator joins the two groups, and the rule makes this join of it, where some predicate equates them
pub record IsEquatedJoin (rule : Rule) (from : Operator) (join : EquatedJoin) : Type 0 where
  pub joins : from ≡ operators.Logical (logical.Join join.left join.right)
  pub equated : work_of rule ≡ Implements Equated
  pub by_rule : rule_of join.to ≡ rule
  pub implements_it : (group : KeyParts) → implements group join.to ≡ logical.Join join.left join.right
  pub no_index : index_of join.to ≡ 0
