-- what is made is the statement, which has it
use Rattle.std.proofs.Common.{rules}
use Rattle.embedding.proofs.Readable.{made_readable}
use Rattle.embedding.proofs.host.statement.Goals as goal

pub returns-clause-readable : goal.returns-clause-readable
returns-clause-readable c = made_readable _ (search rules)
