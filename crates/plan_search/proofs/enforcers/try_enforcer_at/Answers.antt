use Rattle.std.proofs.Common.{◌≡◌, ◌≤◌, ◌+◌, None, Some, ap, sym, ◌∙◌, subst}
use Rattle.query_core.specs.Keys as keys
use Rattle.plan_space.specs.Enforcers.{enforcers_of}
use Rattle.plan_tree.specs.Enforcers.{IsEnforced}
use Rattle.std.specs.Prelude.{slice_get}
use Rattle.plan_space.specs.Cost.{most_of_all}
use Rattle.plan_search.specs.Places.{place_at, place_of}
use Rattle.plan_search.specs.KeptPlans.{cost_at, kept_at, IsPlanAt}
use Rattle.plan_search.specs.BestSoFar.{GoesOverPlace, BeatsPlace, number_at_place, cheaper_of}
use Rattle.plan_tree.proofs.FoundEnforcers.{some_enforced, none_enforced}
use Rattle.plan_search.proofs.Enforcing.{below_small, lacking_goes, enforcer_goes}
use Rattle.plan_search.proofs.EnforcerNumbers.{last_number}
use Rattle.plan_search.proofs.Scanning.{goes_not}
use Rattle.plan_search.proofs.enforcers.try_enforcer_at.Goals as goal

pub one_plan-requires : goal.one_plan-requires
one_plan-requires c =
    let q = c.args.search.query.now in
    let named : keys.NamesGroup q c.make-key.result c.args.group =
    record { number = c.make-key.ensures.number; known = c.requires.known } in
    let found = some_enforced c.in-Some.found (slice_get (enforcers_of c.args.wanted) c.args.n)
    (subst (λ r. IsEnforced r (slice_get (enforcers_of c.args.wanted) c.args.n)) c.in-Some.is
    (c.enforcer.ensures.fitting c.args.group named c.requires.fits)) in
    record {
      small = subst (λ k. cost_at c.args.search.answers.now (place_at k c.in-Some.found.below) ≤ most_of_all)
          (sym c.make-key.ensures.number)
          (subst (λ r. cost_at c.args.search.answers.now (place_of c.args.group r) ≤ most_of_all) (sym found.2.1)
          (below_small q c.args.search.answers.now c.args.group c.args.wanted c.args.search.props.now c.requires.props
          c.requires.known c.requires.fits c.requires.answered (c.what_is_asked_fits.ensures.enforcers q) c.args.n
          found.0
          found.1 (c.costs_fit.ensures.least q)));
    }

-- the enforcer over the plan for what it asks
pub returns-in-Some-one_plan : goal.returns-in-Some-one_plan
returns-in-Some-one_plan c =
    let q = c.args.search.query.now in
    let answers = c.args.search.answers.now in
    let named : keys.NamesGroup q c.make-key.result c.args.group =
    record { number = c.make-key.ensures.number; known = c.requires.known } in
    let found = some_enforced c.in-Some.found (slice_get (enforcers_of c.args.wanted) c.args.n)
    (subst (λ r. IsEnforced r (slice_get (enforcers_of c.args.wanted) c.args.n)) c.in-Some.is
    (c.enforcer.ensures.fitting c.args.group named c.requires.fits)) in
    let is_node = found.2.0 in
    let below = c.in-Some-one_plan.below in
    subst (λ new. GoesOverPlace q answers c.args.group c.args.wanted c.args.n c.args.best.now new)
    (sym (c.offer.ensures ∙ ap (λ choice. Some (cheaper_of c.args.best.now choice)) c.under.ensures))
    (enforcer_goes q answers c.args.group c.args.wanted c.args.search.props.now c.requires.props c.requires.known
    c.requires.fits c.requires.answered (c.what_is_asked_fits.ensures.enforcers q) c.args.n found.0 found.1
    (record { itself = c.plans_are_ordered.ensures.itself q; along = c.plans_are_ordered.ensures.along q })
    (c.choices_serve.ensures q) c.in-Some.found.node is_node
    c.enforcer_cost_by-local.result (c.enforcer_cost_by-local.ensures.value c.args.group found.0.node
    c.requires.rows.value is_node) below c.args.best.now
    (subst (λ r. IsPlanAt answers (place_of c.args.group r) below) found.2.1
    (subst (λ k. IsPlanAt answers (place_at k c.in-Some.found.below) below) c.make-key.ensures.number
    c.in-Some-one_plan.ensures.found)))

-- nothing stands below
pub returns-in_default-one_plan : goal.returns-in_default-one_plan
returns-in_default-one_plan c =
    let q = c.args.search.query.now in
    let answers = c.args.search.answers.now in
    let named : keys.NamesGroup q c.make-key.result c.args.group =
    record { number = c.make-key.ensures.number; known = c.requires.known } in
    let found = some_enforced c.in-Some.found (slice_get (enforcers_of c.args.wanted) c.args.n)
    (subst (λ r. IsEnforced r (slice_get (enforcers_of c.args.wanted) c.args.n)) c.in-Some.is
    (c.enforcer.ensures.fitting c.args.group named c.requires.fits)) in
    lacking_goes q answers c.args.group c.args.wanted c.args.search.props.now c.requires.props c.requires.known
    c.requires.fits c.requires.answered (c.what_is_asked_fits.ensures.enforcers q) c.args.n found.0 found.1
    c.args.best.now
    (subst (λ r. kept_at answers (place_of c.args.group r) ≡ None) found.2.1
    (subst (λ k. kept_at answers (place_at k c.in-Some.found.below) ≡ None) c.make-key.ensures.number
    c.in_default-one_plan.ensures.found))

-- there is no such enforcer
pub returns-in_default : goal.returns-in_default
returns-in_default c =
    let q = c.args.search.query.now in
    let named : keys.NamesGroup q c.make-key.result c.args.group =
    record { number = c.make-key.ensures.number; known = c.requires.known } in
    let none = none_enforced (slice_get (enforcers_of c.args.wanted) c.args.n)
    (subst (λ r. IsEnforced r (slice_get (enforcers_of c.args.wanted) c.args.n)) c.in_default.is
    (c.enforcer.ensures.fitting c.args.group named c.requires.fits)) in
    goes_not q c.args.search.answers.now c.args.group c.args.wanted (number_at_place c.args.wanted c.args.n)
    (number_at_place c.args.wanted (c.args.n + 1))
    (BeatsPlace q c.args.group c.args.wanted c.args.n) c.args.best.now (last_number c.args.wanted c.args.n none)
    (λ tree e is. let never : None ≡ Some e = sym none ∙ is in cc)
