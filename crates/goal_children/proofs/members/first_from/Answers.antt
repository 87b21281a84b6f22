use Rattle.std.proofs.Common.{◌+◌, ◌-◌, ◌/◌, ◌<◌, get_or, arith}
use Rattle.goal_children.proofs.OfMembers.{word_rises, words_rise}
use Rattle.goal_children.proofs.members.first_from.Goals as goal

-- the middle one lies below the bound, and so do those before it
pub halves-preserved-then-word_of-bound : goal.halves-preserved-then-word_of-bound
halves-preserved-then-word_of-bound c =
    let words = c.args.words.now in
    let middle = c.halves.low + (c.halves.high - c.halves.low) / 2 in
    let within : middle < c.halves.high = omega (arith, c.halves-test.true) in
    record {
      order = omega (arith, c.halves-test.true);
      within = c.halves.invariant.within;
      before = λ k less.
          let order = words_rise words c.requires.ascending k middle (omega (arith, less))
          (omega (arith, within, c.halves.invariant.within)) in
          omega (
            arith,
            word_rises c.args.job (get_or words k 0) (get_or words middle 0) order,
            c.word_of.ensures,
            c.if-word_of-bound.true,
          );
      after = c.halves.invariant.after;
    }

-- it doesn't, and so do not those behind it
pub halves-preserved : goal.halves-preserved
halves-preserved c =
    let words = c.args.words.now in
    let middle = c.halves.low + (c.halves.high - c.halves.low) / 2 in
    record {
      order = omega arith;
      within = omega (arith, c.halves-test.true, c.halves.invariant.within);
      before = c.halves.invariant.before;
      after = λ k more inside.
          let order = words_rise words c.requires.ascending middle k more inside in
          omega (
            arith,
            word_rises c.args.job (get_or words middle 0) (get_or words k 0) order,
            c.word_of.ensures,
            c.if-word_of-bound.false,
          );
    }
