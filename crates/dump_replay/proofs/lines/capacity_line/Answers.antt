use Rattle.dump_replay.specs.Lines.{capacity}
use Rattle.dump_replay.proofs.Said.{lacks_form}
use Rattle.dump_replay.proofs.lines.capacity_line.Goals as goal

pub returns-in_err-capacity-clause-says : goal.returns-in_err-capacity-clause-says
returns-in_err-capacity-clause-says c = rw c.from_residual-in_err-capacity.ensures
    (lacks_form capacity (λ bytes more ends. ends) c.args.text.now c.in_ok-cut.cut.line.now c.in_ok-cut.cut.rest.now
    c.in_ok-cut.ensures c.in_err-capacity.ensures.says)
