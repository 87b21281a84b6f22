-- The lines are gone through one after the other, each beside the plan's own.
use Rattle.std.proofs.Common.{refl}
use Rattle.text_check.proofs.FirstAt.{pair_first, pair_more, pairs_all}
use Rattle.text_check.proofs.passes.first_other.Goals as goal

pub returns-then-not-has_numbers-clause-first : goal.returns-then-not-has_numbers-clause-first
returns-then-not-has_numbers-clause-first c =
    pair_first c.args.lines.now c.args.own.now c.requires.as_many c.loop-place.place c.loop-place.place _ _
    c.has_numbers.result c.loop-place-test.true refl c.loop-place.invariant c.has_numbers.ensures.1 c.if-not-has_numbers.true

pub loop-place-preserved : goal.loop-place-preserved
loop-place-preserved c =
    pair_more c.args.lines.now c.args.own.now c.requires.as_many c.loop-place.place _ _ c.loop-place-test.true
    c.loop-place.invariant (c.has_numbers.ensures.0 c.if-not-has_numbers.false)

pub returns-clause-first : goal.returns-clause-first
returns-clause-first c =
    pairs_all c.args.lines.now c.args.own.now c.requires.as_many c.loop-place.place c.loop-place-test.false
    c.loop-place.invariant
