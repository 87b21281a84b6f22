use Rattle.std.proofs.Common.{◌∙◌, subst, sym}
use Rattle.xform_rules.specs.Forms.{Finds, IsPhysical}
use Rattle.xform_rules.specs.Implemented.{Makes}
use Rattle.xform_rules.specs.Results.{GivesByWork, Says}
use Rattle.xform_rules.proofs.Findings.{first_logical}
use Rattle.xform_rules.proofs.Operators.{finds_physical}
use Rattle.xform_rules.proofs.results.without_member.Goals as goal

-- a rule that explores gives what it says
pub returns-in-Explores : goal.returns-in-Explores
returns-in-Explores c =
    let q = c.args.query.now in
    subst (λ work. Finds (GivesByWork q c.args.rule work c.args.group c.args.from c.args.n) c.explored.result)
    (sym c.in-Explores.is ∙ c.work.ensures)
    (first_logical (Says q c.in-Explores.way c.args.group c.args.from) c.args.n c.said.result c.explored.result
    c.explored.ensures.first c.explored.ensures.others c.said.ensures)

-- another rule gives what it makes
pub returns-in-Implements : goal.returns-in-Implements
returns-in-Implements c =
    let q = c.args.query.now in
    let made = Makes q c.args.rule c.in-Implements.condition c.args.group c.args.from c.args.n in
    subst (λ work. Finds (GivesByWork q c.args.rule work c.args.group c.args.from c.args.n) c.physical.result)
    (sym c.in-Implements.is ∙ c.work.ensures)
    (subst (Finds (IsPhysical made)) (sym c.physical.ensures) (finds_physical made c.made.result c.made.ensures))
