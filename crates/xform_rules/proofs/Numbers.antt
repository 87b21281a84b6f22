-- A result that reads an index has at most that index's number.
use Rattle.std.proofs.Common.{ℕ, ◌≤◌, arith}
use Rattle.query_core.specs.Expressions.{physical_fields}
use Rattle.query_core.specs.declared.query.Query.{Query}
use Rattle.query_core.specs.declared.words.KeyParts.{KeyParts}
use Rattle.query_core.specs.declared.expressions.Logical.{Logical}
use Rattle.query_core.specs.declared.expressions.Physical.{Physical}
use Rattle.query_core.specs.declared.expressions.Operator.TheVariants as operators
use Rattle.xform_rules.specs.declared.rules.Rule.{Rule}
use Rattle.xform_rules.specs.declared.rules.Work.{Work}
use Rattle.xform_rules.specs.declared.rules.Work.TheVariants.{Explores, Implements}
use Rattle.xform_rules.specs.Rules.{work_of}
use Rattle.xform_rules.specs.Results.{Gives, GivesByWork}
use Rattle.xform_rules.proofs.Making.{makes_within}

by_work : (q : Query) (rule : Rule) (work : Work) (g : KeyParts) (from : Logical) (n : ℕ) (to : Physical)
    → GivesByWork q rule work g from n (operators.Physical to) → n ≤ (physical_fields to).index
by_work q rule (Explores way) g from n to gives = omega (arith, gives.0)
by_work q rule (Implements condition) g from n to gives = makes_within q g from rule condition n to gives

pub number_within : (q : Query) (rule : Rule) (g : KeyParts) (from : Logical) (n : ℕ) (to : Physical)
    → Gives q rule g from n (operators.Physical to)
    → n ≤ (physical_fields to).index
number_within q rule = by_work q rule (work_of rule)
