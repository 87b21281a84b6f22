use Rattle.goal_children.proofs.Places.{word_there, place_found, place_earlier}
use Rattle.std.proofs.Common.{arith}
use Rattle.goal_children.proofs.words.place_for.Goals as goal

pub returns-then-before-word : goal.returns-then-before-word
returns-then-before-word c =
    word_there c.args.goals.now c.args.word c.loop-place.place c.word-before.result.0 _ c.loop-place-test.true
    c.loop-place.invariant.within c.word-before.ensures.number c.if-before-word.true

pub returns-then-before-word-2 : goal.returns-then-before-word-2
returns-then-before-word-2 c =
    place_found c.args.goals.now c.args.word c.loop-place.place c.word-before.result.0 _ c.loop-place-test.true
    c.loop-place.invariant.within c.word-before.ensures.number
    c.if-before-word-2.true c.loop-place.invariant.after

-- the place is before this goal
pub loop-place-preserved : goal.loop-place-preserved
loop-place-preserved c = record {
  within = omega (arith, c.loop-place.invariant.within);
  after = place_earlier c.args.goals.now c.args.word c.loop-place.place c.word-before.result.0 _ c.loop-place-test.true
      c.loop-place.invariant.within c.word-before.ensures.number
      c.if-before-word.false c.if-before-word-2.false c.loop-place.invariant.after;
}
