use Rattle.command_line.specs.Options.{root_word}
use Rattle.dump_replay.proofs.Said.{root_utf8}
use Rattle.dump_replay.proofs.lines.root_in.Goals as goal

pub returns-in_err-word : goal.returns-in_err-word
returns-in_err-word c = rw c.from_residual.ensures
    (λ form. c.in_err-word.ensures (root_word form.0) (root_utf8 form.0) form.1)
