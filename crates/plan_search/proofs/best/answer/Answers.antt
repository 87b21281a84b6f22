use Rattle.std.proofs.Common.{◌∙◌, ap, subst, Some}
use Rattle.std.specs.Ordering.{nat_cmp}
use Rattle.std.specs.BTreeMap.{Updates}
use Rattle.std.proofs.lemmas.Result.{on_ok_weaker}
use Rattle.plan_search.specs.Places.{place_at}
use Rattle.plan_search.proofs.Finding.{answered_more}
use Rattle.plan_search.proofs.best.answer.Goals as goal

pub returns : goal.returns
returns c =
    let q = c.args.query.now in
    let place = c.place_at.ensures ∙ ap (λ k. place_at k c.args.wanted) c.make.ensures.number in
    on_ok_weaker c.put.result
    (λ updates. answered_more q c.args.props.now c.requires.props (c.groups_are_known.ensures.in_range q)
    c.expressions_are_one.ensures.groups c.args.answers.now c.put.new.self
    c.args.group c.args.wanted c.find-best.result c.requires.known c.requires.fits c.requires.answered
    c.find-best.ensures
    (subst (λ p. Updates nat_cmp c.args.answers.now.map c.put.new.self.map p (Some c.find-best.result)) place updates))
    c.put.ensures
