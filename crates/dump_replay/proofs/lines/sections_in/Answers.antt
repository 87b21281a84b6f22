use Rattle.dump_replay.specs.Lines.{sections_word}
use Rattle.dump_replay.proofs.Said.{sections_utf8}
use Rattle.dump_replay.proofs.lines.sections_in.Goals as goal

pub returns-in_err-word : goal.returns-in_err-word
returns-in_err-word c = rw c.from_residual.ensures
    (λ form. c.in_err-word.ensures (sections_word form.0 form.1) (sections_utf8 form.0 form.1) form.2)
