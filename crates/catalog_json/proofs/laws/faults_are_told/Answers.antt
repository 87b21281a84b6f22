use Rattle.catalog_json.proofs.Told.{bytes_told}
use Rattle.catalog_json.proofs.laws.faults_are_told.Goals as goal

-- no fault of the walk is want of memory
pub returns : goal.returns
returns c = bytes_told
