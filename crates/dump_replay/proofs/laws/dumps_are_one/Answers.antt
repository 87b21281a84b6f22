use Rattle.dump_replay.specs.Lines.{all_lines}
use Rattle.dump_replay.proofs.Begun.{lacks_one, one_lacks}
use Rattle.dump_replay.proofs.Written.{lines_are_first, same_dump}
use Rattle.std.proofs.Common.{[]}
use Rattle.dump_replay.proofs.laws.dumps_are_one.Goals as goal

pub returns : goal.returns
returns c = record {
  one = same_dump;
  fault = one_lacks all_lines;
  either = λ text dump number says lacks. lacks_one all_lines text [] number (lines_are_first text dump says) lacks;
}
