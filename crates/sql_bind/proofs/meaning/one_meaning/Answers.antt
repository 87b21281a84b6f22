use Rattle.sql_bind.proofs.MeaningLemmas.{meaning}
use Rattle.sql_bind.proofs.meaning.one_meaning.Goals as goal

pub returns : goal.returns
returns c = λ scope reference. meaning scope reference
