use Rattle.sql_bind.proofs.Told.{names_told}
use Rattle.sql_bind.proofs.laws.faults_are_told.Goals as goal

-- no fault of the names is want of memory
pub returns : goal.returns
returns c = names_told
