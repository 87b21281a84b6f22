use Rattle.std.proofs.Common.{◌≡◌, List, subst, slice_get, arith}
use Rattle.std.proofs.lemmas.Option.{slice_get_past}
use Rattle.plan_space.specs.Enforcers.{EnforcedBy}
use Rattle.plan_tree.specs.Enforcers.{IsEnforced}
use Rattle.plan_tree.proofs.Kept.{fitting_kept}
use Rattle.plan_tree.proofs.There.{first_is_there, second_is_there}
use Rattle.plan_tree.proofs.enforcers.enforcer_of_group.Goals as goal

-- the first of those that are kept, or the second
pub returns-in-0-clause-at_place : goal.returns-in-0-clause-at_place
returns-in-0-clause-at_place c = rw c.in-0.is (record {
  kept = c.both-first.ensures.kept;
  are_kept = c.both-first.ensures.are_kept;
  at_place = c.both-first.ensures.is_first;
})

pub returns-in-1-clause-at_place : goal.returns-in-1-clause-at_place
returns-in-1-clause-at_place c = rw c.in-1.is (record {
  kept = c.both-first.ensures.kept;
  are_kept = c.both-first.ensures.are_kept;
  at_place = c.both-first.ensures.is_second;
})

-- there are at most two
pub returns-in_default-clause-at_place : goal.returns-in_default-clause-at_place
returns-in_default-clause-at_place c =
    let kept = c.both-first.ensures.kept in
    let past = slice_get_past kept c.args.n (omega (arith, c.both-first.ensures.few)) in
    record {
      kept = kept;
      are_kept = c.both-first.ensures.are_kept;
      at_place = rw past tt;
    }

-- where the request fits, all enforcers are kept
pub returns-in_default-clause-fitting : goal.returns-in_default-clause-fitting
returns-in_default-clause-fitting c =
    let kept = c.both-first.ensures.kept in
    let past = slice_get_past kept c.args.n (omega (arith, c.both-first.ensures.few)) in
    λ fits.
    rw (← fitting_kept c.args.query.now c.args.group c.args.request kept fits c.both-first.ensures.are_kept, past) tt

pub returns-in-0-clause-fitting : goal.returns-in-0-clause-fitting
returns-in-0-clause-fitting c = λ fits.
    let all = fitting_kept c.args.query.now c.args.group c.args.request c.both-first.ensures.kept fits
    c.both-first.ensures.are_kept in
    let place : c.args.n ≡ 0 = omega arith in
    rw place (subst (λ (list : List EnforcedBy). IsEnforced c.both-first.result.0 (slice_get list 0)) all
    c.both-first.ensures.is_first)

pub returns-in-1-clause-fitting : goal.returns-in-1-clause-fitting
returns-in-1-clause-fitting c = λ fits.
    let all = fitting_kept c.args.query.now c.args.group c.args.request c.both-first.ensures.kept fits
    c.both-first.ensures.are_kept in
    let place : c.args.n ≡ 1 = omega arith in
    rw place (subst (λ (list : List EnforcedBy). IsEnforced c.both-first.result.1 (slice_get list 1)) all
    c.both-first.ensures.is_second)

-- and one of those for the request
pub returns-in-0-clause-there : goal.returns-in-0-clause-there
returns-in-0-clause-there c = first_is_there c.args.query.now c.args.group c.args.request c.both-first.result.0
    c.both-first.result.1 c.both-first.ensures

pub returns-in-1-clause-there : goal.returns-in-1-clause-there
returns-in-1-clause-there c = second_is_there c.args.query.now c.args.group c.args.request c.both-first.result.0
    c.both-first.result.1 c.both-first.ensures
