use Rattle.std.proofs.Common.{sym, ◌∙◌}
use Rattle.std.proofs.lemmas.Bool.{false≢true}
use Rattle.dump_replay.specs.Lines.{version}
use Rattle.dump_replay.proofs.Said.{lacks_form}
use Rattle.dump_replay.proofs.lines.version_line.Goals as goal

pub returns-else-is_same : goal.returns-else-is_same
returns-else-is_same c =
    lacks_form version (λ bytes more ends. ends) c.args.text.now c.in_ok-cut.cut.line.now c.in_ok-cut.cut.rest.now
    c.in_ok-cut.ensures (λ same. absurd (false≢true (sym c.if-is_same.false ∙ c.is_same.ensures.1 same)))
