-- the set's keys are the names
use Rattle.std.proofs.Common.{◌∙◌, ap, not, string_bytes}
use Rattle.catalog_json.proofs.Keys.{any_shown}
use Rattle.catalog_json.proofs.names.TableNames.add.Goals as goal

pub returns-clause-added : goal.returns-clause-added
returns-clause-added c = rw (← c.self.view_is) (c.in_ok-insert.ensures.added
    ∙ ap not (any_shown (string_bytes c.args.name) c.self.inside.set.keys))
