use Rattle.std.proofs.Common.{sym, subst}
use Rattle.query_core.specs.declared.words.KeyParts.{KeyParts}
use Rattle.request_props.specs.Fitting.{Fits}
use Rattle.plan_search.specs.Places.{place_of}
use Rattle.plan_search.specs.KeptPlans.{AreAnswered}
use Rattle.plan_search.proofs.Tried.{is_native_at, of_own_group, tried_none, tried_more, tried_all}
use Rattle.plan_search.proofs.natives.try_all.Goals as goal

pub loop-p-init : goal.loop-p-init
loop-p-init c = tried_none c.args.search.query.now c.args.wanted c.args.search.answers.now c.args.group c.args.list.now
    c.args.best.now c.requires.rises

pub try_mode-requires-clause-is : goal.try_mode-requires-clause-is
try_mode-requires-clause-is c =
    of_own_group c.args.search.query.now c.args.group _
    (is_native_at c.args.search.query.now c.args.group c.args.list.now c.loop-p.p-index _ c.loop-p-test.true
    c.requires.are)

pub try_mode-requires-clause-fits : goal.try_mode-requires-clause-fits
try_mode-requires-clause-fits c =
    subst (λ (g : KeyParts). Fits c.args.search.query.now g c.args.wanted)
    (sym (is_native_at c.args.search.query.now c.args.group c.args.list.now c.loop-p.p-index _ c.loop-p-test.true
    c.requires.are).of_group) c.requires.fits

pub try_mode-requires-clause-answered : goal.try_mode-requires-clause-answered
try_mode-requires-clause-answered c =
    subst (λ (g : KeyParts). AreAnswered c.args.search.query.now c.args.search.answers.now (place_of g c.args.wanted))
    (sym (is_native_at c.args.search.query.now c.args.group c.args.list.now c.loop-p.p-index _ c.loop-p-test.true
    c.requires.are).of_group) c.requires.answered

pub loop-p-preserved : goal.loop-p-preserved
loop-p-preserved c = tried_more c.args.search.query.now c.args.wanted c.args.search.answers.now c.args.group
    c.args.list.now c.loop-p.p-index _ c.args.best.now
    c.loop-p.best c.try_mode.new.best c.loop-p-test.true c.requires.are c.loop-p.invariant c.try_mode.ensures

pub returns : goal.returns
returns c = tried_all c.args.search.query.now c.args.wanted c.args.search.answers.now c.args.group c.args.list.now
    c.loop-p.p-index c.args.best.now c.loop-p.best c.loop-p-test.false c.loop-p.invariant
