-- the map's keys are the names
use Rattle.std.proofs.Common.{◌∙◌}
use Rattle.catalog_json.proofs.Keys.{position_shown}
use Rattle.catalog_json.proofs.column.Columns.position.Goals as goal

pub returns-clause-place : goal.returns-clause-place
returns-clause-place c = rw (← c.self.view_is) (c.get_index_of.ensures.index
    ∙ position_shown c.args.name.now c.self.inside.values.entries)
