use Rattle.dump_replay.proofs.Said.{word_found}
use Rattle.dump_replay.proofs.lines.word_behind.Goals as goal

pub returns : goal.returns
returns c = word_found c.args.line.now c.args.name.now c.in_ok-word.word.now c.word_of.result c.in_ok-word.ensures
    c.word_of.ensures
