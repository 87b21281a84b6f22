use Rattle.std.proofs.Common.{append_assoc}
use Rattle.dump_replay.specs.Dumps.{text_of}
use Rattle.dump_replay.proofs.writing.head_of.Goals as goal

pub returns : goal.returns
unfolding text_of
returns c = λ catalog query. simp (
  c.in_ok-format.ensures.ok,
  c.root_word-root.ensures,
  c.in_ok-off.ensures,
  c.print_line-print.ensures,
  append_assoc,
)
