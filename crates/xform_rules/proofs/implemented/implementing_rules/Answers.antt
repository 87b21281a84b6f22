use Rattle.std.proofs.Common.{◌≡◌, false, subst, sym}
use Rattle.std.specs.List.{Contains}
use Rattle.std.proofs.lemmas.Bool.{false≢true}
use Rattle.query_core.specs.declared.query.Query.{Query}
use Rattle.query_core.specs.declared.words.KeyParts.{KeyParts}
use Rattle.xform_rules.specs.declared.rules.Rule.{Rule}
use Rattle.xform_rules.specs.declared.rules.Work.{Work}
use Rattle.xform_rules.specs.declared.rules.Work.TheVariants.{Explores, Implements}
use Rattle.xform_rules.specs.Rules.{work_of, is_exploring}
use Rattle.xform_rules.specs.Results.{IsForWork}
use Rattle.xform_rules.proofs.implemented.implementing_rules.Goals as goal

-- a rule that implements is for what its operator implements
by_work : (c : goal.After-makers_of) → (q : Query) (rule : Rule) (work : Work) (group : KeyParts)
    → is_exploring work ≡ false → IsForWork q rule work group c.args.from → Contains c.makers_of.result.now rule
by_work c q rule (Explores way) group implements is_for = absurd (false≢true (sym implements))
by_work c q rule (Implements condition) group implements (n, to, (is_rule, is_from, allowed)) =
    subst (Contains c.makers_of.result.now) is_rule (c.makers_of.ensures.every group to is_from)

pub returns : goal.returns
returns c = record { every = λ q rule group implements is_for. by_work c q rule (work_of rule) group implements is_for }
