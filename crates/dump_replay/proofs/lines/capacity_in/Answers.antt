-- A number is written in ASCII, and is read as it was.
use Rattle.std.proofs.Common.{arith, sym, ◌∙◌, decimal}
use Rattle.dump_replay.proofs.Said.{decimal_utf8, no_capacity}
use Rattle.dump_replay.proofs.lines.capacity_in.Goals as goal

pub returns-in_err-word-clause-says : goal.returns-in_err-word-clause-says
returns-in_err-word-clause-says c = rw c.from_residual.ensures
    (λ form. c.in_err-word.ensures (decimal form.0) (decimal_utf8 form.0 (omega (arith, form.1.to))) form.2)

pub returns-in_err-capacity-clause-says : goal.returns-in_err-capacity-clause-says
returns-in_err-capacity-clause-says c = rw c.from_residual-in_err-capacity.ensures
    (no_capacity c.args.line.now c.in_ok-word.word.now c.in_ok-word.ensures
    (sym c.number_within.ensures.number ∙ c.in_err-capacity.was))
