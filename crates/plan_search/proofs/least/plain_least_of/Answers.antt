use Rattle.std.proofs.Common.{sym, ◌∙◌, ap, subst}
use Rattle.xform_rules.specs.Closure.{IsClosureOf}
use Rattle.plan_search.specs.Places.{place_at}
use Rattle.plan_search.specs.KeptPlans.{kept_at, StandsAt}
use Rattle.plan_search.proofs.Finding.{kept_found, none_found}
use Rattle.plan_search.proofs.least.plain_least_of.Goals as goal

-- the words are those of all members
pub answer_all-requires-clause-closure : goal.answer_all-requires-clause-closure
answer_all-requires-clause-closure c = subst (IsClosureOf c.args.query.now) (sym c.as_slice.ensures)
    c.in_ok-words.ensures

-- the plan that stands at the request's place
pub plan_at-requires : goal.plan_at-requires
plan_at-requires c =
    let q = c.args.query.now in
    let answers = c.in_ok-answers.answers in
    let group = c.args.group in
    let wanted = c.args.wanted in
    let place = c.place_at-place.ensures ∙ ap (λ k. place_at k wanted) c.make.ensures.number in
    let at = ap (λ p. kept_at answers p) (sym place) ∙ sym c.kept.ensures ∙ c.in-Some.is in
    let below = c.groups_are_known.ensures.small group (c.groups_are_known.ensures.in_range q group c.requires.known) in
    let found = kept_found q c.args.props.now c.requires.props answers c.in-Some.kept group wanted _ below
    c.in_ok-answers.ensures c.requires.known c.requires.fits at in
    (found.0, subst (λ p. StandsAt answers p found.0) (sym place) found.1.stands)

pub returns-in-Some : goal.returns-in-Some
returns-in-Some c =
    let q = c.args.query.now in
    let answers = c.in_ok-answers.answers in
    let group = c.args.group in
    let wanted = c.args.wanted in
    let place = c.place_at-place.ensures ∙ ap (λ k. place_at k wanted) c.make.ensures.number in
    let at = ap (λ p. kept_at answers p) (sym place) ∙ sym c.kept.ensures ∙ c.in-Some.is in
    let below = c.groups_are_known.ensures.small group (c.groups_are_known.ensures.in_range q group c.requires.known) in
    let found = kept_found q c.args.props.now c.requires.props answers c.in-Some.kept group wanted _ below
    c.in_ok-answers.ensures c.requires.known c.requires.fits at in (
      found.0,
      c.in_ok-plan_at-in-Some.ensures found.0
          (subst (λ p. StandsAt answers p found.0) (sym place) found.1.stands),
      found.1.least,
      found.1.cost,
    )

-- none stands there
pub returns : goal.returns
returns c =
    let q = c.args.query.now in
    let answers = c.in_ok-answers.answers in
    let group = c.args.group in
    let wanted = c.args.wanted in
    let place = c.place_at-place.ensures ∙ ap (λ k. place_at k wanted) c.make.ensures.number in
    let at = ap (λ p. kept_at answers p) (sym place) ∙ sym c.kept.ensures ∙ c.in-None.is in
    let below = c.groups_are_known.ensures.small group (c.groups_are_known.ensures.in_range q group c.requires.known) in
    none_found q c.args.props.now c.requires.props answers group wanted _ below c.in_ok-answers.ensures c.requires.known
    c.requires.fits at
