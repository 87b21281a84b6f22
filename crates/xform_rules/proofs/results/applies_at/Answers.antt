use Rattle.std.proofs.Common.{subst}
use Rattle.xform_rules.specs.Forms.{IsLogical}
use Rattle.xform_rules.specs.Results.{IsFor}
use Rattle.xform_rules.proofs.Facts.{result_applies}
use Rattle.xform_rules.proofs.results.applies_at.Goals as goal

-- an expression with a result is one that the rule is for
pub returns-then-is_on-clause-needed : goal.returns-then-is_on-clause-needed
returns-then-is_on-clause-needed c bound n other has =
    let q = c.args.query.now in
    let e = c.args.e in
    c.is_for.ensures.1 (subst (IsLogical (IsFor q c.args.rule e.group)) c.in-Logical.is
    (result_applies q c.args.rule e bound n other has).is_for)
