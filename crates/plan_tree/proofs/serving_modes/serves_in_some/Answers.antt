-- There is a first mode in which it serves, or none before the last.
use Rattle.std.proofs.Common.{inl, inr, arith}
use Rattle.std.proofs.lemmas.Bool.{cases_lt, ltb-true, lt-ltb}
use Rattle.plan_tree.proofs.serving_modes.serves_in_some.Goals as goal

pub returns : goal.returns
returns c =
    let to_try = c.modes_to_try.ensures in
    let mode = c.next.result in (
      λ is. (mode, to_try.only c.requires.candidate mode (c.next.ensures.found (ltb-true mode 192 is))),
      λ (first, has). lt-ltb mode 192 (elim (cases_lt mode 192) [
        | inl less ↦ less
        | inr most ↦
            let few = c.modes_are_few.ensures.few c.args.query.now c.requires.props.few_lists c.args.expr first has.0
            has.1.is_line in
            absurd (c.next.ensures.none first (omega arith) (omega (arith, few, most)) (to_try.all first has))
      ]),
    )
