use Rattle.dump_replay.specs.Lines.{print}
use Rattle.dump_replay.proofs.Said.{lacks_form}
use Rattle.dump_replay.proofs.lines.print_line.Goals as goal

pub returns-in_err-sections : goal.returns-in_err-sections
returns-in_err-sections c = rw c.from_residual-in_err-sections.ensures
    (lacks_form print (λ bytes more ends. ends) c.args.text.now c.in_ok-cut.cut.line.now c.in_ok-cut.cut.rest.now
    c.in_ok-cut.ensures c.in_err-sections.ensures)
