use Rattle.std.proofs.Common.{subst, sym}
use Rattle.xform_rules.specs.Forms.{Finds}
use Rattle.xform_rules.specs.Results.{Says}
use Rattle.xform_rules.proofs.results.said.Goals as goal

-- each way says what its own call finds
pub returns-in-Expansion : goal.returns-in-Expansion
returns-in-Expansion c =
    subst (λ way. Finds (Says c.args.query.now way c.args.group c.args.from) c.expanded.result) (sym c.in-Expansion.is)
    c.expanded.ensures

pub returns-in-Commutation : goal.returns-in-Commutation
returns-in-Commutation c =
    subst (λ way. Finds (Says c.args.query.now way c.args.group c.args.from) c.commuted.result)
    (sym c.in-Commutation.is) c.commuted.ensures
