use Rattle.std.proofs.Common.{sym, subst}
use Rattle.std.specs.List.{All}
use Rattle.std.proofs.lemmas.Result.{on_ok_weaker}
use Rattle.xform_rules.specs.Closure.{IsMemberWord}
use Rattle.plan_search.specs.Steps.{AreMemberWords, GrowsTo, AreSteps, AreBoundSteps}
use Rattle.plan_search.proofs.FoundSteps.{all_done, part_members}
use Rattle.plan_search.proofs.closure.add_new_steps.Goals as goal

-- the new words are among the words of members
pub add_all_steps-requires-clause-new : goal.add_all_steps-requires-clause-new
add_all_steps-requires-clause-new c =
    subst (All (IsMemberWord c.args.query.now)) (sym c.deref.ensures.value)
    (part_members c.args.query.now c.args.words.now c.in_ok-new.new.items c.requires.words.members
    c.in_ok-new.ensures.part)

pub add_all_bound_results-requires : goal.add_all_bound_results-requires
add_all_bound_results-requires c = record {
  words = c.requires.words.members;
  new = subst (AreMemberWords c.args.query.now) (sym c.deref-2.ensures.value) (record {
    members = part_members c.args.query.now c.args.words.now c.in_ok-new.new.items c.requires.words.members
        c.in_ok-new.ensures.part;
    ascending = c.in_ok-new.ensures.ascending;
  });
}

-- what was done before, and what is done from the new words, is all
pub returns : goal.returns
returns c =
    let q = c.args.query.now in
    let words = c.args.words.now in
    let new = c.in_ok-new.new.items in
    let xs = c.args.found.now in
    let ys = c.add_all_steps.new.found in
    let zs = c.add_all_bound_results.new.found in
    let fresh : GrowsTo q (AreSteps q words new) xs ys =
    subst (λ ws. GrowsTo q (AreSteps q words ws) xs ys) c.deref.ensures.value c.in_ok-add_all_steps.ensures in
    on_ok_weaker c.add_all_bound_results.result
    (λ bound. all_done q words c.args.done.now new xs ys zs c.in_ok-new.ensures c.requires.done fresh
    (subst (λ ws. GrowsTo q (AreBoundSteps q ws words) ys zs) c.deref-2.ensures.value bound))
    c.add_all_bound_results.ensures
