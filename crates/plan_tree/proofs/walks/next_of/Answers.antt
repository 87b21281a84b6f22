-- No mode from the last on has a line.
use Rattle.std.proofs.Common.{inl, inr, arith}
use Rattle.std.proofs.lemmas.Bool.{cases_lt}
use Rattle.plan_tree.proofs.walks.next_of.Goals as goal

pub returns-else-mode-lt-END : goal.returns-else-mode-lt-END
returns-else-mode-lt-END c = λ mode above has. elim (cases_lt mode c.next-mode.result) [
  | inl less ↦ c.next-mode.ensures.none mode above less has
  | inr most ↦
      let (line, is) = c.requires.lined mode has in
      let few = c.modes_are_few.ensures.few c.args.query.now c.requires.props.few_lists c.args.expr mode line is in
      absurd (omega (arith, few, most))
]
