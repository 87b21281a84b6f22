use Rattle.dump_replay.specs.Lines.{off}
use Rattle.dump_replay.proofs.Said.{lacks_form}
use Rattle.dump_replay.proofs.lines.off_line_of.Goals as goal

pub returns-in-None-clause-says : goal.returns-in-None-clause-says
returns-in-None-clause-says c =
    lacks_form off (λ bytes more ends. ends) c.args.text.now c.in-Some.cut.line.now c.in-Some.cut.rest.now
    c.in-Some.ensures (rw c.in-None.is at c.in_ok-off.ensures.says)
