use Rattle.std.proofs.Common.{sym, subst}
use Rattle.plan_search.specs.BestSoFar.{IsMade}
use Rattle.plan_search.proofs.Kids.{AreLaws, IsAsked, asked_here, asked_small}
use Rattle.plan_search.proofs.Made.{missing_lacks, found_made}
use Rattle.plan_search.proofs.natives.choice_of.Goals as goal
use Rattle.plan_search.proofs.natives.choice_of.Goals.{After-costs_fit}

-- what is known of the expression, and of what it asks for
known : (c : After-costs_fit) → IsAsked c.args.search.query.now c.args.search.answers.now c.args.p.now.expr
    c.args.wanted c.args.p.now.mode c.args.alt
known c =
    let q = c.args.search.query.now in
    let laws : AreLaws q = record {
      asks = c.what_is_asked_fits.ensures.children q;
      serve = c.choices_serve.ensures q;
      fall = c.keys_fall.ensures q;
      least = c.costs_fit.ensures.least q;
      choice = c.costs_fit.ensures.choice q;
    } in
    asked_here q c.args.search.answers.now c.args.p.now c.args.wanted c.args.alt c.args.search.props.now
    c.requires.props laws
    (c.members_are_candidates.ensures q) c.requires.is c.requires.fits c.requires.answered c.requires.alt

pub plans_below-requires : goal.plans_below-requires
plans_below-requires c =
    let p = c.args.p.now in
    record {
      small = asked_small c.args.search.query.now c.args.search.answers.now p.expr c.args.wanted p.mode c.args.alt
          (known (goal.at.plans_below-requires c).After-costs_fit);
    }

-- a plan is missing
pub returns-in-None : goal.returns-in-None
returns-in-None c =
    let p = c.args.p.now in
    missing_lacks c.args.search.query.now c.args.search.answers.now p.expr c.args.wanted p.mode c.args.alt
    (known (goal.at.returns-in-None c).After-costs_fit) c.in-None.ensures.found

-- the expression over the plans that it asks for
pub returns-in-Some : goal.returns-in-Some
returns-in-Some c =
    let q = c.args.search.query.now in
    let p = c.args.p.now in
    subst (IsMade q c.args.search.answers.now c.args.wanted p.expr p.mode) (sym c.under.ensures)
    (found_made q c.args.search.answers.now p.expr c.args.wanted p.mode c.args.alt
    (known (goal.at.returns-in-Some c).After-costs_fit) c.native_cost_by-local.result
    (c.native_cost_by-local.ensures.value p.mode c.requires.is.line) c.in-Some.below c.in-Some.ensures.found)
