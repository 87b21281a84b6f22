-- the catalogue is what the walk gives of the value
use Rattle.serde_json.specs.View.{view}
use Rattle.catalog_json.proofs.TablesKept.{catalog_kept}
use Rattle.catalog_json.proofs.reading.catalog_of.Goals as goal

pub returns-in-Ok-clause-sound : goal.returns-in-Ok-clause-sound
returns-in-Ok-clause-sound c = catalog_kept (view c.args.value) c.in-Ok.catalog c.in-Ok.ensures
