use Rattle.std.proofs.Common.{length}
use Rattle.command_line.proofs.words.+read_behind.Given as goal

-- fewer words are left
abbrev pub decreases-read_behind : goal.decreases-read_behind
decreases-read_behind l = length l.words.now
