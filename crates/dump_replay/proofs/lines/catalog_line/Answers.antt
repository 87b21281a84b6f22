use Rattle.dump_replay.specs.Lines.{catalog}
use Rattle.dump_replay.proofs.Said.{lacks_form}
use Rattle.dump_replay.proofs.lines.catalog_line.Goals as goal

pub returns-in_err-catalog : goal.returns-in_err-catalog
returns-in_err-catalog c = rw c.from_residual-in_err-catalog.ensures
    (lacks_form catalog (λ bytes more ends. ends) c.args.text.now c.in_ok-cut.cut.line.now c.in_ok-cut.cut.rest.now
    c.in_ok-cut.ensures (λ form. c.in_err-catalog.ensures form.0 form.1))
