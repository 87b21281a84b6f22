use Rattle.std.proofs.Common.{sym, subst}
use Rattle.plan_search.specs.BestSoFar.{GoesOver}
use Rattle.plan_search.proofs.Scanning.{made_goes}
use Rattle.plan_search.proofs.natives.try_mode.Goals as goal

pub returns-in-Some-choice_of : goal.returns-in-Some-choice_of
returns-in-Some-choice_of c =
    let q = c.args.search.query.now in
    let p = c.args.p.now in
    subst (λ new. GoesOver q c.args.search.answers.now p c.args.wanted c.args.best.now new) (sym c.offer.ensures)
    (made_goes q (record { itself = c.plans_are_ordered.ensures.itself q; along = c.plans_are_ordered.ensures.along q })
    c.args.search.answers.now p.expr c.args.wanted p.mode
    c.in-Some-choice_of.choice c.args.best.now c.in-Some-choice_of.ensures)
