use Rattle.std.proofs.Common.{sym, ◌∙◌}
use Rattle.std.proofs.lemmas.Bool.{false≢true}
use Rattle.plan_search.proofs.Finding.{answered_past}
use Rattle.plan_search.proofs.requests.answer_wanted.Goals as goal

-- the request doesn't fit
pub returns-else-fits : goal.returns-else-fits
returns-else-fits c =
    answered_past c.args.query.now c.args.props.now c.requires.props
    (c.groups_are_known.ensures.in_range c.args.query.now) c.expressions_are_one.ensures.groups c.args.answers.now
    c.args.group
    c.args.wanted c.requires.known c.requires.place c.requires.order
    (λ fits. false≢true (sym c.if-fits.false ∙ c.fits.ensures.1 fits)) c.requires.answered
