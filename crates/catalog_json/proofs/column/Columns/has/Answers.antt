-- the map's keys are the names
use Rattle.std.proofs.Common.{◌∙◌}
use Rattle.catalog_json.proofs.Keys.{name_there}
use Rattle.catalog_json.proofs.column.Columns.has.Goals as goal

pub returns : goal.returns
returns c = rw (← c.self.view_is) (c.contains_key.ensures ∙ name_there c.args.name.now c.self.inside.values.entries)
