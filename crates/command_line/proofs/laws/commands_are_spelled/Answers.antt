use Rattle.command_line.proofs.Spelling.{spelled_read, read_spelled, one_command}
use Rattle.command_line.proofs.laws.commands_are_spelled.Goals as goal

-- what is spelled is read, and what is read is spelled so
pub returns : goal.returns
returns c = record {
  reads = λ words command. (spelled_read words command, read_spelled words command);
  one = one_command;
}
