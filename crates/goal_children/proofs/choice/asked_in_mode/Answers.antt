use Rattle.std.proofs.Common.{arith}
use Rattle.goal_children.proofs.Alternatives.{first_in_range, mode_exact, second_in_range}
use Rattle.goal_children.proofs.choice.asked_in_mode.Goals as goal

-- a mode with a line is one of few
pub alternative_at-alt-requires-clause-few : goal.alternative_at-alt-requires-clause-few
alternative_at-alt-requires-clause-few c =
    omega (
      arith,
      c.modes_are_few.ensures.few c.args.memo.query.now c.requires.memo.collected.few_lists c.args.e
          c.args.mode c.args.line c.requires.alternative.is_line,
    )

-- the mode asks for what its alternative asks for
pub returns : goal.returns
returns c =
    let q = c.args.memo.query.now in
    let alt = c.alternative_at-alt.result in
    let by = c.alternative_at-alt.ensures in
    record {
      exact = mode_exact q alt c.args.e c.args.wanted c.args.mode c.args.line by c.asked_of.result c.asked_of-2.result
          c.asked_of.ensures c.asked_of-2.ensures;
      first = first_in_range q alt c.args.e c.args.wanted c.args.mode c.args.line by c.requires.memo.collected.few_lists
          c.requires.memo.collected.few_orders (c.what_is_asked_fits.ensures.children q)
          c.requires.goal.of_candidate c.requires.goal.numbered c.asked_of.result c.asked_of.ensures;
      second = second_in_range q alt c.args.e c.args.wanted c.args.mode c.args.line by
          c.requires.memo.collected.few_lists c.requires.memo.collected.few_orders
          (c.what_is_asked_fits.ensures.children q)
          c.requires.goal.of_candidate c.requires.goal.numbered c.asked_of-2.result c.asked_of-2.ensures;
    }
