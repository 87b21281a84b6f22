use Rattle.std.proofs.Common.{◌≡◌, ◌∙◌, subst, sym, IsTrue, ◌↔◌}
use Rattle.xform_rules.specs.declared.rules.Work.TheVariants.{Implements}
use Rattle.xform_rules.specs.Rules.{work_of}
use Rattle.xform_rules.specs.Implemented.{Makes}
use Rattle.xform_rules.specs.Results.{IsForWork}
use Rattle.xform_rules.proofs.Findings.{finds_some}
use Rattle.xform_rules.proofs.Making.{makes_first}
use Rattle.xform_rules.proofs.results.is_for.Goals as goal

-- a rule that explores has its own test
pub returns-in-Explores : goal.returns-in-Explores
returns-in-Explores c =
    subst (λ work. IsTrue c.is_explored.result ↔ IsForWork c.args.query.now c.args.rule work c.args.group c.args.from)
    (sym c.in-Explores.is ∙ c.work.ensures) c.is_explored.ensures

-- where another rule makes an operator, it makes a first one
pub returns-in-Implements : goal.returns-in-Implements
returns-in-Implements c =
    let q = c.args.query.now in
    let group = c.args.group in
    let from = c.args.from in
    let rule = c.args.rule in
    let condition = c.in-Implements.condition in
    let work : work_of rule ≡ Implements condition = sym c.work.ensures ∙ c.in-Implements.is in
    let first = finds_some (Makes q rule condition group from 0) c.made.result c.is_some.result c.is_some.ensures
    c.made.ensures in
    subst (λ work. IsTrue c.is_some.result ↔ IsForWork q rule work group from) (sym work) (
      λ yes. let (to, makes) = first.0 yes in
          (0, to, makes),
      λ (n, to, makes). first.1 (makes_first q group from rule condition work n to makes),
    )
