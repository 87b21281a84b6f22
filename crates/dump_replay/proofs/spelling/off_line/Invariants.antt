-- the line of those rules before the place that the set has
use Rattle.std.proofs.Common.{string_bytes}
use Rattle.dump_replay.proofs.OffLines.{IsSpelled}
use Rattle.dump_replay.proofs.spelling.off_line.Given as goal

abbrev pub invariant-loop-rule : goal.invariant-loop-rule
invariant-loop-rule l = IsSpelled l.off l.rule-index (string_bytes l.line) l.before
