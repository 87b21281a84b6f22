use Rattle.dump_replay.specs.Lines.{root}
use Rattle.dump_replay.proofs.Said.{lacks_form}
use Rattle.dump_replay.proofs.lines.root_line.Goals as goal

pub returns-in_err-root : goal.returns-in_err-root
returns-in_err-root c = rw c.from_residual-in_err-root.ensures
    (lacks_form root (λ bytes more ends. ends) c.args.text.now c.in_ok-cut.cut.line.now c.in_ok-cut.cut.rest.now
    c.in_ok-cut.ensures c.in_err-root.ensures)
