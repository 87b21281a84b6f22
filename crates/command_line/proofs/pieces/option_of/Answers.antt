use Rattle.std.proofs.Common.{sym}
use Rattle.command_line.proofs.OptionNames.{named_by}
use Rattle.command_line.proofs.pieces.option_of.Goals as goal

-- the option is found by its word
pub returns : goal.returns
returns c = sym (named_by c.args.word.now c.spelled.result c.spelled.ensures.found c.spelled.ensures.only)
