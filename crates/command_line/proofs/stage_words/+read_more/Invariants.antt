use Rattle.std.proofs.Common.{length}
use Rattle.command_line.proofs.stage_words.+read_more.Given as goal

-- the rest of the word is shorter
abbrev pub decreases-read_more : goal.decreases-read_more
decreases-read_more l = length l.word.now
